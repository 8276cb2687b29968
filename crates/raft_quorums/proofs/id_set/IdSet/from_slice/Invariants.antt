use Rattle.std.proofs.Common.{◌≡◌, take}
use Rattle.raft_quorums.specs.Quorum.{rising_ids}
use Rattle.raft_quorums.proofs.id_set.IdSet.from_slice.Given as goal

abbrev pub invariant-loop-id : goal.invariant-loop-id
invariant-loop-id g l = l.set ≡ rising_ids g.NID.Ord.cmp (take l.id-index l.ids)
