use Rattle.std.proofs.Common.{◌≡◌, take}
use Rattle.raft_membership.specs.Membership.{least_outside}
use Rattle.raft_membership.proofs.membership.missing_voter.Given as goal

abbrev pub invariant-loop-group : goal.invariant-loop-group
invariant-loop-group g l = l.least ≡ least_outside g.NID.Ord.cmp (g.S.HasId.has l.nodes) (take l.group-index l.groups)
