-- What an event leaves at its node and sends, by a property of nodes' states and one of messages' bodies.
use Rattle.std.specs.Prelude.{◌≡◌, ℕ, Bool, true, false, All, List, [], Option, Some, None, refl}
use Rattle.std.proofs.Common.{subst, ⊎_elim}
use Rattle.std.proofs.lemmas.List.Elements.{All-contains}
use Rattle.raft_group_step.specs.Message.{Message, MessageBody}
use Rattle.raft_group_step.specs.GroupState.{GroupState}
use Rattle.raft_group_step.specs.GroupEvent.{GroupEvent}
use Rattle.raft_group_step.specs.StepResult.{RefusalReason, StepResult}
use Rattle.raft_laws.specs.declared.world_event.WorldEvent.{WorldEvent}
use Rattle.raft_laws.specs.GroupWorld.{GroupWorld, NodeState, Up, Down, Outcome}
use Rattle.raft_laws.specs.NodeEvent.{NodeEvent, after_step, outcome_at, outcome_of_end, outcome_of_step, outcome_of_stop, state_after}
use Rattle.raft_laws.specs.Stop.{stopped_after}
use Rattle.raft_laws.specs.GroupRun.{At, after_scene, outcome_in, sent_in, stop_at}
use Rattle.raft_laws.proofs.BallotSafe.{Among}
use Rattle.raft_laws.proofs.Counts.{among_contains}
use Rattle.raft_laws.proofs.WorldRuns.{among_either}
use Rattle.raft_history_laws.proofs.Later.{one_node}

-- all that was sent has it
abbrev pub AllSent : (MessageBody → Type 0) → List Message → Type 0
AllSent B ms = (x : Message) → Among x ms → B x.body

module _ (N : NodeState → Type 0) (B : MessageBody → Type 0) where
  -- an event that ends so leaves this state, and sends such messages
  pub record Leaves (o : Outcome) (x : NodeState) : Type 0 where
    pub node : N x
    pub sent : AllSent B (sent_in o)

  pub nothing_sent : (o : Outcome) (x : NodeState) → sent_in o ≡ [] → N x → Leaves o x
  nothing_sent o x e h = record { node = h; sent = λ y a. absurd (subst (λ ms. Among y ms) e a) }

  -- a step, whole or stopped, leaves such states and sends such messages
  pub record StepLeaves (s : GroupState) (r : StepResult) : Type 0 where
    pub ended : N (Up r.state)
    pub stopped : (k : ℕ) → N (Down (stopped_after k s.stored r))
    pub sent : All (λ (z : Message). B z.body) r.messages

  module _ (s : GroupState) (r : StepResult) (h : StepLeaves s r) where
    ends : (why : Option RefusalReason) → Leaves (outcome_of_end r why) (Up r.state)
    ends None =
        record {
          node = h.ended;
          sent = λ y a. All-contains (λ (z : Message). B z.body) r.messages y h.sent (among_contains r.messages y a);
        }
    ends (Some why) = nothing_sent (outcome_of_end r (Some why)) (Up r.state) refl h.ended

    stops : (k : ℕ) (e : GroupEvent) (why : Option RefusalReason) → Leaves (outcome_of_stop s e r why) (after_step (Some k) s r)
    stops k e None = nothing_sent (outcome_of_stop s e r None) (after_step (Some k) s r) refl (h.stopped k)
    stops k e (Some why) = nothing_sent (outcome_of_stop s e r (Some why)) (after_step (Some k) s r) refl (h.stopped k)

    pub step_leaves : (stopped : Bool) (k : ℕ) (e : GroupEvent) → Leaves (outcome_of_step stopped s e r) (after_step (stop_at stopped k) s r)
    step_leaves true k e = stops k e r.refused
    step_leaves false k e = ends r.refused

  -- all nodes and messages of a world have them
  pub record WorldHas (w : GroupWorld) : Type 0 where
    pub nodes : (n : ℕ) → N (w.nodes n)
    pub messages : AllSent B w.messages

  pub world_after_event : (w : GroupWorld) (e : WorldEvent) (stopped : Bool) (k i : ℕ) (at_node : NodeEvent) → Leaves (outcome_at i at_node stopped (w.nodes i)) (state_after i at_node (stop_at stopped k) (w.nodes i)) → WorldHas w → WorldHas (after_scene w e (outcome_in w stopped (At i at_node)) (stop_at stopped k) (At i at_node))
  world_after_event w e stopped k i at_node left h =
      let state = state_after i at_node (stop_at stopped k) (w.nodes i) in
      let o = outcome_at i at_node stopped (w.nodes i) in
      record {
        nodes = λ n. one_node (λ (j : ℕ) (y : NodeState). N y) i n state w.nodes (λ same. left.node) (λ other. h.nodes n);
        messages = λ y a. ⊎_elim (λ old. h.messages y old) (λ new. left.sent y new) (among_either y w.messages (sent_in o) a);
      }
