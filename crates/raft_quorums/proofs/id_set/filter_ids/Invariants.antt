use Rattle.std.proofs.Common.{◌≡◌, take}
use Rattle.std.specs.List.{filter}
use Rattle.raft_quorums.proofs.id_set.filter_ids.Given as goal

abbrev pub invariant-loop-id : goal.invariant-loop-id
invariant-loop-id g l = l.kept.items ≡ filter (g.S.HasId.has l.keep) (take l.id-index l.ids)
