use Rattle.std.proofs.Common.{◌≡◌, take}
use Rattle.raft_quorums.specs.Nodes.{with_ids}
use Rattle.raft_quorums.proofs.id_set.IdSet.with.Given as goal

abbrev pub invariant-loop-id : goal.invariant-loop-id
invariant-loop-id g l = l.set ≡ with_ids g.NID.Ord.cmp l.self (take l.id-index l.ids)
