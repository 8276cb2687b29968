use Rattle.std.proofs.Common.{map, take}
use Rattle.std.specs.List.Sorted.{IsPermutation}
use Rattle.raft_progress.specs.Granted.{IsFalling}
use Rattle.raft_progress.specs.Parts.{carried}
use Rattle.raft_progress.proofs.vec_progress.VecProgress.carry_falling.Given as goal

abbrev pub invariant-loop-id : goal.invariant-loop-id
invariant-loop-id g l = record {
  moved : IsPermutation (map (carried g.ID.PartialEq.eq l.self l.default_value) (take l.id-index l.ids)) l.entries.items;
  falling : IsFalling g.P.Ord.cmp g.V.Borrow.borrowed l.entries.items;
}
