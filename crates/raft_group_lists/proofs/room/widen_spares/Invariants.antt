-- All are spares, none is lost or smaller, and those before that place hold so many nodes.
use Rattle.std.proofs.Common.{◌≡◌, ◌<◌, ◌≤◌, ◌-◌, ℕ, length, Some}
use Rattle.std.specs.Prelude.{Vec, slice_get, vec_capacity}
use Rattle.std.specs.declared.alloc.Global.{Global}
use Rattle.raft_group_lists.specs.declared.notes.Reached.{Reached}
use Rattle.raft_group_lists.specs.Room.{AreSpares, EachHolds}
use Rattle.raft_group_lists.proofs.room.widen_spares.Given as goal

abbrev pub invariant-loop-at : goal.invariant-loop-at
invariant-loop-at l =
    AreSpares l.spares.items × (length l.spares.items ≡ length l.fn.spares.items) × (l.at ≤ length l.spares.items)
    × ((i : ℕ) (v : Vec Reached Global) → i < l.at → slice_get l.spares.items i ≡ Some v → l.count ≤ vec_capacity v)
    × ((n : ℕ) → EachHolds l.fn.spares.items n → EachHolds l.spares.items n)

abbrev pub decreases-loop-at : goal.decreases-loop-at
decreases-loop-at l = length l.spares.items - l.at
