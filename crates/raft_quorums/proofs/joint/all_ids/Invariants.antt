use Rattle.std.proofs.Common.{◌≡◌, take}
use Rattle.raft_quorums.specs.Quorum.{joint_ids}
use Rattle.raft_quorums.proofs.joint.all_ids.Given as goal

abbrev pub invariant-loop-child : goal.invariant-loop-child
invariant-loop-child g l = l.set ≡ joint_ids g.ID.Ord.cmp g.QS.QuorumSet.members (take l.child-index l.children)
