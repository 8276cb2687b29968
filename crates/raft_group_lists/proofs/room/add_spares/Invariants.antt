-- All are spares, and no room is lost.
use Rattle.std.proofs.Common.{◌≤◌, ◌-◌, ℕ, length}
use Rattle.raft_group_lists.specs.Room.{AreSpares, EachHolds}
use Rattle.raft_group_lists.proofs.room.add_spares.Given as goal

abbrev pub invariant-loop-alloc : goal.invariant-loop-alloc
invariant-loop-alloc l =
    AreSpares l.spares.items × (length l.fn.spares.items ≤ length l.spares.items) × (EachHolds l.fn.spares.items l.count → EachHolds l.spares.items l.count)
    × ((n : ℕ) → n ≤ length l.fn.spares.items → EachHolds l.fn.spares.items n → EachHolds l.spares.items n)

abbrev pub decreases-loop-alloc : goal.decreases-loop-alloc
decreases-loop-alloc l = l.count - length l.spares.items
