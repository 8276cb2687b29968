use Rattle.std.proofs.Common.{◌≡◌, take}
use Rattle.raft_quorums.specs.Nodes.{with_nodes}
use Rattle.raft_quorums.proofs.node_map.NodeMap.with_nodes.Given as goal

abbrev pub invariant-loop-id : goal.invariant-loop-id
invariant-loop-id g l = l.map ≡ with_nodes g.NID.Ord.cmp l.self (take l.id-index l.nodes)
