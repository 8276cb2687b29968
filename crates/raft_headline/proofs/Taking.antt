-- Commands are taken, requests replied to, and a candidate that a quorum granted leads.
use Rattle.std.specs.Prelude.{◌≡◌, ◌==◌, ℕ, true, false, List, Option, None, refl}
use Rattle.std.proofs.Common.{sym, ap, ◌∙◌, subst}
use Rattle.std.proofs.lemmas.Bool.{eq-eqb}
use Rattle.raft_quorums.specs.Quorum.{is_quorum}
use Rattle.raft_group_step.specs.Values.{has_id}
use Rattle.raft_group_step.specs.Message.{Message}
use Rattle.raft_group_step.specs.GroupState.{Untold}
use Rattle.raft_group_step.specs.declared.group_call.GroupCall.TheVariants.{Propose}
use Rattle.raft_group_step.specs.GroupEvent.{Call, GroupCall, Receive}
use Rattle.raft_group_step.specs.StepResult.{StepResult}
use Rattle.raft_group_step.specs.GroupStep.{group_step}
use Rattle.raft_laws.specs.declared.world_event.WorldEvent.{WorldEvent}
use Rattle.raft_laws.specs.declared.world_event.WorldEvent.TheVariants as event
use Rattle.raft_laws.specs.GroupWorld.{Up}
use Rattle.raft_laws.specs.GroupWorld.{Done as Ended}
use Rattle.raft_laws.specs.NodeEvent.{Comes, outcome_at, outcome_of_end}
use Rattle.raft_laws.specs.GroupRun.{At, outcome_in, outcome_of, scene_of, scene_of_delivery}
use Rattle.raft_laws.specs.OneList.{AreNodeIds}
use Rattle.raft_laws.proofs.StepMoments.{refusals_told}
use Rattle.raft_laws.proofs.WorldOrigins.{same_up}
use Rattle.raft_step_laws.specs.Elections.{configs_counted, counts_a_grant, granters_after}
use Rattle.raft_step_laws.proofs.Answering.{requests_answered}
use Rattle.raft_step_laws.proofs.Electing.{granted_lead}
use Rattle.raft_history_laws.proofs.TakenNodes.{take_commands}
use Rattle.raft_machines.specs.Machine.{MachineRules}
use Rattle.raft_headline.specs.ClusterEvent.{Ask, ClusterOutcome, Deliver, Done, Opened, Refused, Stopped, Fused, PassedOver, TurnedAway, Recorded, Said, is_stopped, is_turned_away}
use Rattle.raft_headline.specs.Seen.{Own, own_or_aside, seen_by, seen_of, seen_unless}
use Rattle.raft_headline.specs.Machines.{Replicas}
use Rattle.raft_headline.specs.Replaying.{Says}
use Rattle.raft_headline.specs.Takes.{CommandsAreTaken, GrantedLead, RequestsAreReplied}
use Rattle.raft_headline.proofs.TakenCalls.{comes_here}
use Rattle.raft_headline.proofs.Happening.{DoneAt, done_at, number, own_step, past, past_is, seen_done}

-- what the group sees of a call that reached its node
asked_own : (h n : ℕ) (call : GroupCall) (now : ℕ) (r : Recorded) → r.event ≡ Ask n h call now → is_turned_away r.outcome ≡ false → seen_by h r ≡ Own (event.Ask n call now)
asked_own h n call now r is reached =
    ap (λ x. seen_unless (is_turned_away r.outcome) (seen_of h x r.node r.outcome)) is
    ∙ ap (λ b. seen_unless b (own_or_aside (h == h) (event.Ask n call now) n r.outcome)) reached
    ∙ ap (λ b. own_or_aside b (event.Ask n call now) n r.outcome) (eq-eqb h h refl)

-- what ran to its end is done
says_done : (h : ℕ) (answers : ℕ → Option (List ℕ)) (o : ClusterOutcome) (sent : List Message) (tells : List Untold) (lost : List ℕ) → Says h false answers o (Ended sent tells lost) → (said : Said) × (o ≡ Done said)
says_done h answers (Done said) sent tells lost s = (said, refl)
says_done h answers (Opened parts) sent tells lost s = absurd s
says_done h answers (Refused why) sent tells lost s = absurd s
says_done h answers (Stopped unknown) sent tells lost s = absurd s
says_done h answers Fused sent tells lost s = absurd s
says_done h answers PassedOver sent tells lost s = absurd s
says_done h answers TurnedAway sent tells lost s = absurd s

module _ (rules : MachineRules) (ids : List ℕ) (fit : AreNodeIds ids) (h : ℕ) (history : List Recorded) (end : Replicas) where
  pub commands_are_taken : CommandsAreTaken rules ids h history end
  commands_are_taken r old new it n s lead up leads command token now is short room reached goes =
      let e : WorldEvent = event.Ask n (Propose command token) now in
      let seen : seen_by h r ≡ Own e = asked_own h n (Propose command token) now r is reached in
      let here : scene_of old.world e ≡ At n (Comes (Call (Propose command token) now)) = comes_here old.world n (Propose command token) now refl in
      let step = own_step rules ids fit h history end r old new it e seen in
      let law = take_commands ids (past rules ids fit h history end r old new it) old.world (past_is rules ids fit h history end r old new it) n s lead up leads command token now short room in
      let g : StepResult = group_step n s (Call (Propose command token) now) in
      let what : outcome_of old.world e (is_stopped r.outcome) ≡ outcome_of_end g None =
      ap (outcome_of old.world e) goes
      ∙ ap (outcome_in old.world false) here
      ∙ ap (outcome_at n (Comes (Call (Propose command token) now)) false) up
      ∙ ap (outcome_of_end g) (refusals_told n s (Call (Propose command token) now) ∙ law.taken)
      in
      let done = says_done h step.answers r.outcome g.messages g.told g.unknown (subst (Says h false step.answers r.outcome) what step.says) in
      let d : DoneAt n (Call (Propose command token) now) old new done.0 =
      done_at rules h e r (number rules ids fit h history end r old new it e seen) old new step n (Call (Propose command token) now) here done.0 done.1
      in
      let same : d.state ≡ s = same_up d.state s (sym d.was_up ∙ up) in
      record {
        said = done.0;
        done = done.1;
        state = g.state;
        is_up = d.is_up ∙ ap (λ x. Up (group_step n x (Call (Propose command token) now)).state) same;
        has = law.then_has;
      }

  pub requests_are_replied : RequestsAreReplied rules ids h history end
  requests_are_replied r old new it i now m is there asks said done =
      let e : WorldEvent = event.Deliver i now in
      let seen : seen_by h r ≡ Own e = seen_done h r (Deliver h i now) said is done ∙ ap (λ b. own_or_aside b e r.node (Done said)) (eq-eqb h h refl) in
      let here : scene_of old.world e ≡ At m.addressee (Comes (Receive m.sender m now)) = ap (λ o. scene_of_delivery o now) there in
      let step = own_step rules ids fit h history end r old new it e seen in
      let d : DoneAt m.addressee (Receive m.sender m now) old new said = done_at rules h e r (number rules ids fit h history end r old new it e seen) old new step m.addressee (Receive m.sender m now) here said done in
      let a = requests_answered m.addressee d.state m.sender m now d.passed asks in
      record {
        before = d.state;
        was_up = d.was_up;
        after = (group_step m.addressee d.state (Receive m.sender m now)).state;
        is_up = d.is_up;
        reply = a.reply;
        rest = a.rest;
        first = (d.is_said).sent ∙ a.first;
        replies = a.replies;
        one_reply = a.one_reply;
      }

  pub granted_leads : GrantedLead rules ids h history end
  granted_leads r old new it n s ge comes counts quorum said done =
      let step = own_step rules ids fit h history end r old new it comes.event comes.seen in
      let d : DoneAt n ge old new said = done_at rules h comes.event r (number rules ids fit h history end r old new it comes.event comes.seen) old new step n ge comes.here said done in
      let same : s ≡ d.state = same_up s d.state (sym comes.is_up ∙ d.was_up) in (
        (group_step n d.state ge).state,
        d.is_up,
        granted_lead n d.state ge d.passed
            (subst (λ x. counts_a_grant x ge ≡ true) same counts)
            (subst (λ x. is_quorum (configs_counted x ge) (has_id (granters_after n x ge)) ≡ true) same quorum),
      )
