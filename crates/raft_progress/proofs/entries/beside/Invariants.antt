use Rattle.std.proofs.Common.{◌≡◌, map, take}
use Rattle.raft_progress.proofs.entries.beside.Given as goal

abbrev pub invariant-loop-id : goal.invariant-loop-id
invariant-loop-id g l = l.entries.items ≡ map (λ id. (id, l.value)) (take l.id-index l.ids)
