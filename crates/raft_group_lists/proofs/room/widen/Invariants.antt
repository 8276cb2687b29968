-- Before that place so many more fit under each vote.
use Rattle.std.proofs.Common.{◌≡◌, ◌<◌, ◌≤◌, ◌-◌, ℕ, length, Some}
use Rattle.std.specs.Prelude.{slice_get}
use Rattle.raft_group_lists.specs.declared.notes.Lead.{Lead}
use Rattle.raft_group_lists.specs.Room.{AreWider, HasSpace}
use Rattle.raft_group_lists.proofs.room.widen.Given as goal

abbrev pub invariant-loop-at : goal.invariant-loop-at
invariant-loop-at l =
    AreWider l.fn.leads l.leads × (l.at ≤ length l.leads)
    × ((i : ℕ) (lead : Lead) → i < l.at → slice_get l.leads i ≡ Some lead → HasSpace lead.reached l.count)

abbrev pub decreases-loop-at : goal.decreases-loop-at
decreases-loop-at l = length l.leads - l.at
