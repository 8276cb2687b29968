use Rattle.std.proofs.Common.{◌≡◌, take}
use Rattle.std.specs.List.{filter}
use Rattle.raft_quorums.proofs.node_map.filter_nodes.Given as goal

abbrev pub invariant-loop-id : goal.invariant-loop-id
invariant-loop-id g l = l.kept.items ≡ filter (λ x. g.S.HasId.has l.keep x.0) (take l.id-index l.nodes)
