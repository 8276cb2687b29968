-- Behind the rest of the walk, the entries stand at their places.
use Rattle.std.proofs.Common.{◌≡◌, ◌≤◌, ◌++◌, drop, length, take}
use Rattle.std.specs.Prelude.{Some}
use Rattle.raft_group_lists.specs.Notes.{AreWithin, IsWithin, count_to, entries_at, list_to}
use Rattle.raft_group_lists.proofs.walks.fill_above.Given as goal

abbrev pub invariant-loop-at : goal.invariant-loop-at
invariant-loop-at l =
    IsWithin l.noted l.at
    × (l.floor ≤ count_to l.noted l.at)
    × (list_to l.noted (Some l.last) ≡ list_to l.noted l.at ++ entries_at l.noted (drop (count_to l.noted l.at) l.listed))
    × AreWithin l.noted (drop (count_to l.noted l.at) l.listed)
    × (take l.floor l.listed ≡ take l.floor l.fn.listed)
    × (length l.listed ≡ length l.fn.listed)
    × (count_to l.noted l.at ≤ length l.listed)

abbrev pub decreases-loop-at : goal.decreases-loop-at
decreases-loop-at l = count_to l.noted l.at
