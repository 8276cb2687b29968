use Rattle.std.proofs.Common.{◌≡◌, take}
use Rattle.std.specs.List.{count_by}
use Rattle.raft_quorums.proofs.quorum_set.is_majority.Given as goal

abbrev pub invariant-loop-id : goal.invariant-loop-id
invariant-loop-id g l = l.count ≡ count_by (g.S.HasId.has l.nodes) (take l.id-index l.group)
