-- The rest of the walk has the last membership.
use Rattle.std.proofs.Common.{◌≡◌}
use Rattle.raft_group_lists.specs.Notes.{IsWithin, count_to, list_to, membership_in}
use Rattle.raft_group_lists.proofs.walks.membership_to.Given as goal

abbrev pub invariant-loop-at : goal.invariant-loop-at
invariant-loop-at l = IsWithin l.noted l.at × (membership_in (list_to l.noted l.fn.last) ≡ membership_in (list_to l.noted l.at))

abbrev pub decreases-loop-at : goal.decreases-loop-at
decreases-loop-at l = count_to l.noted l.at
