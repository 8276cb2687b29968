use Rattle.raft_quorums.proofs.PlaceLemmas.{IsBehindFirst}
use Rattle.raft_quorums.proofs.id_set.place.Given as goal

abbrev pub invariant-loop-at : goal.invariant-loop-at
invariant-loop-at g l = IsBehindFirst (g.NID.Ord.cmp l.id) l.ids l.at
