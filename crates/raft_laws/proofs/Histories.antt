-- Histories put together and taken apart, and worlds put together from their nodes.
use Rattle.std.specs.Prelude.{◌≡◌, ℕ, ◌==◌, List, [], ◌∷◌, ◌++◌, refl}
use Rattle.std.proofs.Common.{ap, sym, ◌∙◌, inl, inr}
use Rattle.std.proofs.lemmas.Bool.{eqb-false, cases_Bool}
use Rattle.std.proofs.Common.{eqb-true, subst}
use Rattle.raft_laws.specs.declared.world_event.WorldEvent.{WorldEvent}
use Rattle.raft_laws.specs.GroupWorld.{GroupWorld, NodeState, Outcome, Recorded, is_stop, state_or, with_node_state}
use Rattle.raft_laws.specs.NodeEvent.{NodeEvent, state_after}
use Rattle.raft_laws.specs.GroupRun.{Scene, At, Replays, after_scene, happens, outcome_of, scene_of, stop_at}
use Rattle.raft_laws.specs.Histories.{IsSplit}

pub histories-join : (rs ss : List Recorded) (w middle end : GroupWorld) → Replays w rs middle → Replays middle ss end → Replays w (rs ++ ss) end
histories-join [] ss w middle end h k = subst (λ (x : GroupWorld). Replays x ss end) h k
histories-join (r ∷ rs) ss w middle end h k =
    (h.0, (h.1.0, histories-join rs ss (happens w r.event r.outcome h.1.0) middle end h.1.1 k))

one-more : (r : Recorded) (rs ss : List Recorded) (w end : GroupWorld) (k : ℕ) → r.outcome ≡ outcome_of w r.event (is_stop r.outcome) → IsSplit (happens w r.event r.outcome k) rs ss end → IsSplit w (r ∷ rs) ss end
one-more r rs ss w end k told split =
    record {
      middle = split.middle;
      front = (told, (k, split.front));
      rest = split.rest;
    }

pub histories-split : (rs ss : List Recorded) (w end : GroupWorld) → Replays w (rs ++ ss) end → IsSplit w rs ss end
histories-split [] ss w end h = record { middle = w; front = refl; rest = h }
histories-split (r ∷ rs) ss w end h =
    one-more r rs ss w end h.1.0 h.0
    (histories-split rs ss (happens w r.event r.outcome h.1.0) end h.1.1)

placed-at : (n : ℕ) (state : NodeState) (nodes after : ℕ → NodeState) → after n ≡ state → ((m : ℕ) → (m ≡ n → ⊥) → after m ≡ nodes m) → (m : ℕ) → with_node_state n state nodes m ≡ after m
placed-at n state nodes after here others m =
    elim (cases_Bool (m == n)) as (λ c. with_node_state n state nodes m ≡ after m) [
      | inl same ↦ ap (λ b. state_or b state (nodes m)) same
          ∙ sym here
          ∙ ap after (sym (eqb-true m n same))
      | inr other ↦ ap (λ b. state_or b state (nodes m)) other
          ∙ sym (others m (eqb-false m n other))
    ]

pub events-lead-to-nodes : (w : GroupWorld) (e : WorldEvent) (o : Outcome) (k n : ℕ) (at_node : NodeEvent) (after : ℕ → NodeState) → scene_of w e ≡ At n at_node → after n ≡ state_after n at_node (stop_at (is_stop o) k) (w.nodes n) → ((m : ℕ) → (m ≡ n → ⊥) → after m ≡ w.nodes m) → (happens w e o k).nodes ≡ after
events-lead-to-nodes w e o k n at_node after scene here others =
    ap (λ (x : Scene). (after_scene w e o (stop_at (is_stop o) k) x).nodes) scene
    ∙ (λ i m. placed-at n (state_after n at_node (stop_at (is_stop o) k) (w.nodes n)) w.nodes after here others m i)
