use Rattle.std.proofs.Common.{◌≡◌, take}
use Rattle.raft_quorums.proofs.node_map.copy_nodes.Given as goal

abbrev pub invariant-loop-id : goal.invariant-loop-id
invariant-loop-id g l = l.copies.items ≡ take l.id-index l.nodes
