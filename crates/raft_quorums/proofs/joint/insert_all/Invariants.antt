use Rattle.std.proofs.Common.{◌≡◌, take}
use Rattle.std.specs.List.{fold}
use Rattle.std.specs.BTreeSet.{insert_key}
use Rattle.raft_quorums.proofs.joint.insert_all.Given as goal

abbrev pub invariant-loop-id : goal.invariant-loop-id
invariant-loop-id g l = l.set ≡ fold (insert_key g.ID.Ord.cmp) l.initial.set (take l.id-index l.ids)
