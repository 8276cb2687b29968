-- The rest of the walk has all that is settled.
use Rattle.std.proofs.Common.{◌≡◌}
use Rattle.raft_group_lists.specs.Notes.{IsWithin, count_to, list_to, passes, settled_by}
use Rattle.raft_group_lists.proofs.walks.settled_at.Given as goal

abbrev pub invariant-loop-at : goal.invariant-loop-at
invariant-loop-at l =
    let j = l.judge in
    let p = passes j.voters.now j.leader j.reached.now j.node j.place in
    IsWithin l.noted l.at × (settled_by p (list_to l.noted l.fn.last) ≡ settled_by p (list_to l.noted l.at))

abbrev pub decreases-loop-at : goal.decreases-loop-at
decreases-loop-at l = count_to l.noted l.at
