use Rattle.std.proofs.Common.{◌≡◌, drop}
use Rattle.raft_log_records.specs.Places.{indexed}
use Rattle.raft_log_memtables.specs.Content.{reach_of}
use Rattle.raft_log_memtables.proofs.entries.reach.Given as goal

abbrev pub invariant-loop-entry : goal.invariant-loop-entry
invariant-loop-entry l = reach_of (indexed (drop l.entry-index l.more)) l.reached ≡ reach_of (indexed l.more) l.fn.before
