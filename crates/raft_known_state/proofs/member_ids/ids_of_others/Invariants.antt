use Rattle.std.proofs.Common.{◌≡◌, ℕ, List, map, take}
use Rattle.raft_known_state.specs.KnownState.{others}
use Rattle.raft_known_state.proofs.member_ids.ids_of_others.Given as goal

abbrev pub invariant-loop-id : goal.invariant-loop-id
invariant-loop-id l = l.ids.items ≡ others l.own (map (λ (x : ℕ × List ℕ). x.0) (take l.id-index l.id-items))
