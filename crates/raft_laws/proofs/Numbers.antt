-- The number of a stop moves one node alone.
use Rattle.std.specs.Prelude.{◌≡◌, ℕ, ◌++◌, refl}
use Rattle.std.proofs.Common.{ap, sym, ◌∙◌}
use Rattle.std.proofs.lemmas.Bool.{eq-eqb, ne_eqb}
use Rattle.raft_laws.specs.declared.world_event.WorldEvent.{WorldEvent}
use Rattle.raft_laws.specs.GroupWorld.{GroupWorld, NodeState, Outcome, Done, Refused, Stopped, Skipped, is_stop, state_or, with_node_state}
use Rattle.raft_laws.specs.GroupRun.{Scene, Nowhere, At, after_scene, ended, happens, led_after, scene_of, stop_at}
use Rattle.raft_laws.specs.Moves.{DifferAtOneNode}

-- the node that changes has its new state
pub state_here : (n : ℕ) (state : NodeState) (nodes : ℕ → NodeState) → with_node_state n state nodes n ≡ state
state_here n state nodes = ap (λ same. state_or same state (nodes n)) (eq-eqb n n refl)

-- a node that isn't the one that changes stays
pub other-node : (n m : ℕ) (state : NodeState) (nodes : ℕ → NodeState) → (m ≡ n → ⊥) → with_node_state n state nodes m ≡ nodes m
other-node n m state nodes h = ap (λ same. state_or same state (nodes m)) (ne_eqb m n h)

same-world-differs : (w : GroupWorld) → DifferAtOneNode w w
same-world-differs w =
    record {
      node = 0;
      other_nodes = λ m h. refl;
      same_messages = refl;
      same_setup = refl;
      same_led = refl;
    }

ended-differs : (w : GroupWorld) (e : WorldEvent) (o : Outcome) (n : ℕ) (s t : NodeState) → led_after o n s ≡ led_after o n t → DifferAtOneNode (ended w e o n s) (ended w e o n t)
ended-differs w e o n s t led =
    record {
      node = n;
      other_nodes = λ m h. other-node n m s w.nodes h ∙ sym (other-node n m t w.nodes h);
      same_messages = refl;
      same_setup = refl;
      same_led = ap (λ notes. w.led ++ notes) led;
    }

scene-differs : (w : GroupWorld) (e : WorldEvent) (o : Outcome) (j k : ℕ) (scene : Scene) → DifferAtOneNode (after_scene w e o (stop_at (is_stop o) j) scene) (after_scene w e o (stop_at (is_stop o) k) scene)
scene-differs w e o j k Nowhere = same-world-differs w
scene-differs w e (Done sent told unknown) j k (At n at_node) = ended-differs w e _ n _ _ refl
scene-differs w e (Refused why) j k (At n at_node) = ended-differs w e _ n _ _ refl
scene-differs w e (Stopped unknown) j k (At n at_node) = ended-differs w e _ n _ _ refl
scene-differs w e Skipped j k (At n at_node) = ended-differs w e _ n _ _ refl

pub number-moves-one-node : (w : GroupWorld) (e : WorldEvent) (o : Outcome) (j k : ℕ) → DifferAtOneNode (happens w e o j) (happens w e o k)
number-moves-one-node w e o j k = scene-differs w e o j k (scene_of w e)
