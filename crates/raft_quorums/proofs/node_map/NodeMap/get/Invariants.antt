use Rattle.std.proofs.Common.{◌≡◌, drop}
use Rattle.raft_quorums.specs.Nodes.{node_at}
use Rattle.raft_quorums.proofs.node_map.NodeMap.get.Given as goal

abbrev pub invariant-loop-other : goal.invariant-loop-other
invariant-loop-other g l =
    node_at g.NID.PartialEq.eq l.self l.id ≡ node_at g.NID.PartialEq.eq (drop l.other-index l.self) l.id
