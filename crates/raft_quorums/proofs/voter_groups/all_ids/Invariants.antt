use Rattle.std.proofs.Common.{◌≡◌, take}
use Rattle.raft_quorums.specs.Quorum.{joint_ids}
use Rattle.raft_quorums.proofs.voter_groups.all_ids.Given as goal

abbrev pub invariant-loop-group : goal.invariant-loop-group
invariant-loop-group g l = l.ids ≡ joint_ids g.NID.Ord.cmp (λ group. group) (take l.group-index l.groups)
