use Rattle.std.proofs.Common.{◌≡◌, drop}
use Rattle.raft_progress.specs.Values.{value_at}
use Rattle.raft_progress.proofs.entries.value_in.Given as goal

abbrev pub invariant-loop-entry : goal.invariant-loop-entry
invariant-loop-entry g l = value_at g.ID.PartialEq.eq l.entries l.id ≡ value_at g.ID.PartialEq.eq (drop l.entry-index l.entries) l.id
