-- A node that starts leads on under a committed vote of its own.
use Rattle.std.specs.Prelude.{◌≡◌, ℕ, ◌==◌, Bool, true, false, if◌then◌else◌, [], ◌∷◌, ◌++◌, Option, Some, None, refl, List}
use Rattle.std.specs.List.{flat_map}
use Rattle.std.proofs.Common.{ap, sym, ◌∙◌, subst}
use Rattle.std.proofs.lemmas.Bool.{eqb-true}
use Rattle.raft_quorums.specs.QuorumLaws.{and_left, and_right}
use Rattle.raft_values.specs.declared.vote.Vote.{Vote}
use Rattle.raft_values.specs.LogId.{place_of}
use Rattle.raft_commands.specs.declared.engine_config.EngineConfig.{EngineConfig}
use Rattle.raft_known_state.specs.KnownState.{KnownState, Knows}
use Rattle.raft_group_step.specs.StoredGroup.{StoredGroup, end_place}
use Rattle.raft_group_step.specs.GroupState.{GroupState, Role, Follower, Leader}
use Rattle.raft_group_step.specs.StepResult.{StepResult, in_role, unchanged}
use Rattle.raft_group_step.specs.Lead.{new_lead}
use Rattle.raft_group_step.specs.Opening.{resume_lead}
use Rattle.raft_commands.specs.declared.command.Command.TheVariants.{BecomeLeader}
use Rattle.raft_leaders.specs.Candidate.{CandidateValue}
use Rattle.raft_leaders.specs.Leader.{LeaderValue}
use Rattle.raft_commands.specs.Output.{Output}
use Rattle.raft_engine.specs.Commands.{sending_of, storing_of}
use Rattle.raft_engine.specs.Events.{CanFinish, IsReady}
use Rattle.raft_engine.specs.Leading.{leads_by}
use Rattle.raft_engine.specs.Standing.{EffectiveMembership, Engine, Given, IsStepOf, Leads, PlaysRole}
use Rattle.raft_engine.proofs.CommandLemmas.{at_once_more, numbers_kept, sends_same, stores_same}
use Rattle.raft_engine.proofs.CommittingLemmas.{moves_kept}
use Rattle.raft_engine.proofs.NewLeadLemmas.{room_at_start}
use Rattle.raft_engine.proofs.StandingLemmas.{order_kept}
use Rattle.raft_engine.specs.Standing.{basis_before}
use Rattle.raft_engine.specs.Turns.{MayLead, Turns, turns_in}
use Rattle.raft_engine.proofs.OrderingLemmas.{rests_kept}

-- a follower doesn't stand
pub stands_nowhere : (own : ℕ) (l : Option (LeaderValue ℕ EffectiveMembership)) (c : Option (CandidateValue ℕ EffectiveMembership)) (s : StoredGroup) (role : Role)
    → role ≡ Follower → PlaysRole own l c s role → c ≡ None
stands_nowhere own l None s role e h = refl
stands_nowhere own None (Some c) s role e h = absurd (subst (PlaysRole own None (Some c) s) e h)
stands_nowhere own (Some l) (Some c) s role e h = absurd (subst (PlaysRole own (Some l) (Some c) s) e h)

module _ {C R : Type 0} (x : Given) (own : ℕ) (e e' : Engine C R) (r : StepResult) (step : IsStepOf x own e r) (l : LeaderValue ℕ EffectiveMembership) where
  -- the lead begins, and nothing is stored
  pub lead_resumed : e.output.queue ≡ [] → x.turn_before ≡ MayLead → r.state.role ≡ Follower → e'.config ≡ e.config → e'.seen_greater_log ≡ e.seen_greater_log → e'.leader ≡ Some l → e'.candidate ≡ None → e'.state ≡ e.state → e'.output ≡ record e.output { queue = e.output.queue ++ BecomeLeader ∷ [] }
      → Leads own l r.state.stored (new_lead r.state.stored) → IsStepOf x own e' (in_role (Leader (new_lead r.state.stored)) r)
  lead_resumed empty turn follows config seen leader candidate state output leads =
      let old = step.state in
      let queue = ap (λ (o : Output C (List ℕ) R ℕ (List ℕ)). o.queue) output in
      let s = r.state.stored in
      record {
        state = record {
          config = config ∙ old.config;
          knows = subst (λ k. Knows k s) (sym state) old.knows;
          renewed = ap (λ (y : KnownState). y.state.vote.utime) state ∙ old.renewed;
          committed = ap (λ (y : KnownState). y.state.committed) state ∙ old.committed;
          wish = ap (λ (y : KnownState). place_of y.wish) state ∙ old.wish;
          role =
              subst (λ o. PlaysRole own o e'.candidate s (Leader (new_lead s))) (sym leader)
              (subst (λ c. PlaysRole own (Some l) c s (Leader (new_lead s))) (sym candidate) leads);
          order = order_kept r.state s.vote r.state.now (Leader (new_lead s)) r.state.renewed r.state.wish r.state.untold old.order;
        };
        stores = ap (λ q. flat_map (storing_of x.snapshot) q) queue ∙ stores_same e.output.queue BecomeLeader x.snapshot r.commands step.stores refl;
        sends = λ t upto. ap (λ q. flat_map (sending_of own t upto) q) queue ∙ sends_same e.output.queue BecomeLeader own t upto r.messages (step.sends t upto) refl;
        seen = seen ∙ step.seen;
        numbers = numbers_kept x.last_sm_seq e.output e'.output BecomeLeader step.numbers output refl;
        moves = moves_kept x.committed_before e.state.state.committed e'.state.state.committed e.output.queue e'.output.queue step.moves BecomeLeader queue refl (ap (λ (y : KnownState). y.state.committed) state);
        at_once = at_once_more e.output.queue BecomeLeader e'.output.queue queue step.at_once tt;
        rests = rests_kept own x.snapshot (basis_before x) e.output.queue e'.output.queue r.state.stored e.state.state.committed step.rests BecomeLeader (leads.is_own, leads.committed) queue e'.state.state.committed refl refl (ap (λ (y : KnownState). y.state.committed) state);
        turns = subst (λ q. Turns x.turn_before (turns_in q) true) (sym (queue ∙ ap (λ q. q ++ BecomeLeader ∷ []) empty)) (turn, refl);
      }

-- ---- whose vote it is

-- the engine tells it of the vote that it knows
pub own_vote_known : {C R : Type 0} (x : Given) (own : ℕ) (e : Engine C R) (r : StepResult) (vote : Vote ℕ) (answer : Bool)
    → IsStepOf x own e r → vote ≡ e.state.state.vote.value → answer ≡ leads_by vote e.config.id → answer ≡ leads_by r.state.stored.vote own
own_vote_known x own e r vote answer step known says =
    says ∙ ap (λ (v : Vote ℕ). leads_by v e.config.id) (known ∙ step.state.knows.vote)
    ∙ ap (leads_by r.state.stored.vote) (ap (λ (y : EngineConfig ℕ). y.id) step.state.config)

module _ (own : ℕ) (vote : Vote ℕ) (leads : leads_by vote own ≡ true) where
  pub committed_then : vote.committed ≡ true
  committed_then = and_left vote.committed (vote.leader_id.node_id == own) leads

  pub own_then : vote.leader_id.node_id ≡ own
  own_then = eqb-true vote.leader_id.node_id own (and_right vote.committed (vote.leader_id.node_id == own) leads)

-- under another vote nothing changes
pub follows_on : (own : ℕ) (r : StepResult) → leads_by r.state.stored.vote own ≡ false → r ≡ resume_lead own r
follows_on own r other = ap (λ b. if b then in_role (Leader (new_lead r.state.stored)) r else r) (sym other)

-- under an own one the lead begins
pub leads_on : (own : ℕ) (r : StepResult) → leads_by r.state.stored.vote own ≡ true → in_role (Leader (new_lead r.state.stored)) r ≡ resume_lead own r
leads_on own r mine = ap (λ b. if b then in_role (Leader (new_lead r.state.stored)) r else r) (sym mine)

-- a node that starts has room for the end of it
pub resume_finishes : (own : ℕ) (s : GroupState) → IsReady own s → s.role ≡ Follower → let after = resume_lead own (unchanged s) in CanFinish own after.state after.state.role
resume_finishes own s ready follows =
    let led = in_role (Leader (new_lead s.stored)) (unchanged s) in
    elim (leads_by s.stored.vote own) as (λ b. CanFinish own (if b then led else unchanged s).state (if b then led else unchanged s).state.role) [
      | true ↦
          room_at_start own (end_place s.stored) led.state
          (record { places = ready.places; wish = ready.wish })
      | false ↦ subst (CanFinish own s) (sym follows) tt
    ]
