use Rattle.std.proofs.Common.{◌≡◌, ℕ, List, map, take}
use Rattle.raft_known_state.specs.KnownState.{others}
use Rattle.raft_node_status.proofs.status.ids_but.Given as goal

abbrev pub invariant-loop-one : goal.invariant-loop-one
invariant-loop-one l = l.ids.items ≡ others l.own (map (λ (x : ℕ × List ℕ). x.0) (take l.one-index l.nodes))
