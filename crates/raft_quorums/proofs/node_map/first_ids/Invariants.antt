use Rattle.std.proofs.Common.{◌≡◌, take, map}
use Rattle.raft_quorums.proofs.node_map.first_ids.Given as goal

abbrev pub invariant-loop-id : goal.invariant-loop-id
invariant-loop-id g l = l.ids.items ≡ map (λ x. x.0) (take l.id-index l.nodes)
