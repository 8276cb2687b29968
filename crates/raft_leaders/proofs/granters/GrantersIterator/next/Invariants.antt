-- The ids that have granted among what is left are those among all.
use Rattle.std.proofs.Common.{◌≡◌, length}
use Rattle.raft_leaders.specs.Candidate.{granting_ids}
use Rattle.raft_leaders.proofs.granters.GrantersIterator.next.Given as goal

abbrev pub invariant-loop-entry : goal.invariant-loop-entry
invariant-loop-entry g l = granting_ids l.self-inside.entries ≡ granting_ids l.initial.self-inside.entries

abbrev pub decreases-loop-entry : goal.decreases-loop-entry
decreases-loop-entry g l = length l.self-inside.entries
