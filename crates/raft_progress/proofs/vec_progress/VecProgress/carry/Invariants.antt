use Rattle.std.proofs.Common.{◌≡◌, map, take}
use Rattle.raft_progress.specs.Parts.{carried}
use Rattle.raft_progress.proofs.vec_progress.VecProgress.carry.Given as goal

abbrev pub invariant-loop-id : goal.invariant-loop-id
invariant-loop-id g l = l.entries.items ≡ map (carried g.ID.PartialEq.eq l.self l.default_value) (take l.id-index l.ids)
