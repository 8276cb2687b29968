use Rattle.std.proofs.Common.{◌≡◌, drop, None}
use Rattle.raft_wire.specs.Frames.{are_consecutive}
use Rattle.raft_wire.proofs.writing.are_consecutive.Given as goal

abbrev pub invariant-loop-entry : goal.invariant-loop-entry
invariant-loop-entry l = are_consecutive l.last (drop l.entry-index l.entries) ≡ are_consecutive None l.entries
