-- No entry of the log id is noted from there on.
use Rattle.std.proofs.Common.{◌≤◌, ℕ, length}
use Rattle.raft_group_lists.specs.Notes.{IsNotedAt}
use Rattle.raft_group_lists.proofs.walks.find_noted.Given as goal

abbrev pub invariant-loop-left : goal.invariant-loop-left
invariant-loop-left l = (l.left ≤ length l.noted) × ((at : ℕ) → l.left ≤ at → IsNotedAt l.noted l.id at → ⊥)

abbrev pub decreases-loop-left : goal.decreases-loop-left
decreases-loop-left l = l.left
