use Rattle.raft_quorums.proofs.PlaceLemmas.{IsBehindFirst}
use Rattle.raft_quorums.proofs.node_map.place.Given as goal

abbrev pub invariant-loop-at : goal.invariant-loop-at
invariant-loop-at g l = IsBehindFirst (λ x. g.NID.Ord.cmp l.id x.0) l.nodes l.at
