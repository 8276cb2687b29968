-- The last one so far goes on to the last of all.
use Rattle.std.proofs.Common.{◌≡◌, drop}
use Rattle.raft_group_step.specs.Message.{last_sent}
use Rattle.raft_messages.proofs.entries.last_sent.Given as goal

abbrev pub invariant-loop-entry : goal.invariant-loop-entry
invariant-loop-entry l = last_sent l.fn.previous l.entries ≡ last_sent l.last (drop l.entry-index l.entries)
