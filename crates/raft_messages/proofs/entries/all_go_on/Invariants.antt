-- The entries so far go on, so the others tell.
use Rattle.std.proofs.Common.{◌≡◌, drop}
use Rattle.raft_messages.specs.Entries.{all_go_on}
use Rattle.raft_messages.proofs.entries.all_go_on.Given as goal

abbrev pub invariant-loop-entry : goal.invariant-loop-entry
invariant-loop-entry l = all_go_on l.initial.last l.entries ≡ all_go_on l.last (drop l.entry-index l.entries)
