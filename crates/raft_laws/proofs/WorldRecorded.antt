-- What an event of a run asked for stands in its history, neither refused nor skipped.
use Rattle.std.specs.Prelude.{◌≡◌, ℕ, zero, suc, Bool, true, false, [], ◌∷◌, slice_get, Option, Some, None, is_some, refl}
use Rattle.std.proofs.Common.{sym, ap, ◌∙◌}
use Rattle.std.proofs.lemmas.Option.{none-some}
use Rattle.raft_group_step.specs.GroupState.{GroupState}
use Rattle.raft_group_step.specs.GroupEvent.{GroupEvent, Call}
use Rattle.raft_group_step.specs.StepResult.{RefusalReason, StepResult}
use Rattle.raft_group_step.specs.GroupStep.{group_step}
use Rattle.raft_laws.specs.declared.world_event.WorldEvent.{WorldEvent}
use Rattle.raft_laws.specs.declared.world_event.WorldEvent.TheVariants.{Ask}
use Rattle.raft_laws.specs.GroupWorld.{GroupWorld, Up, Outcome, Recorded}
use Rattle.raft_laws.specs.NodeEvent.{Comes, outcome_at, outcome_of_end, outcome_of_step, outcome_of_stop}
use Rattle.raft_laws.specs.GroupRun.{history_of, outcome_in, outcome_of, ran, scene_of_call}
use Rattle.raft_laws.specs.Origins.{AskedIsRecorded, Events, is_taken, world_before}
use Rattle.raft_laws.proofs.BallotAgreement.{same_some}
use Rattle.raft_laws.proofs.StepMoments.{refusals_told}

abbrev recorded : WorldEvent → Outcome → Recorded
recorded event outcome = record { event = event; outcome = outcome }

-- the history has each event with what became of it
history_at : (es : Events) (w : GroupWorld) (number : ℕ) (event : WorldEvent) (stop : Option ℕ) → slice_get es number ≡ Some (event, stop) → slice_get (history_of es w) number ≡ Some (recorded event (outcome_of (world_before es number w) event (is_some stop)))
history_at [] w number event stop e = absurd (none-some _ e)
history_at (x ∷ es) w zero event stop e =
    ap (λ (y : WorldEvent × Option ℕ). Some (recorded y.0 (outcome_of w y.0 (is_some y.1)))) (same_some e)
history_at (x ∷ es) w (suc number) event stop e = history_at es (ran w x.0 x.1) number event stop e

end_taken : (r : StepResult) (why : Option RefusalReason) → why ≡ None → is_taken (outcome_of_end r why) ≡ true
end_taken r None e = refl
end_taken r (Some why) e = absurd (let f : None ≡ Some why = sym e in cc)

step_taken : (stopped : Bool) (s : GroupState) (e : GroupEvent) (r : StepResult) → r.refused ≡ None → is_taken (outcome_of_step stopped s e r) ≡ true
step_taken true s e r h = ap (λ o. is_taken (outcome_of_stop s e r o)) h
step_taken false s e r h = end_taken r r.refused h

pub asked_is_recorded : AskedIsRecorded
asked_is_recorded es w number call e a =
    let world = world_before es number w in
    let stopped = is_some a.stop in
    let event : GroupEvent = Call call a.now in
    let goes : (group_step a.node a.state event).refused ≡ None = refusals_told a.node a.state event ∙ a.taken in
    let is : outcome_of world (Ask a.node call a.now) stopped ≡ outcome_at a.node (Comes event) stopped (Up a.state) =
    ap (λ (t : Bool). outcome_in world stopped (scene_of_call t a.node call a.now)) a.set_up
    ∙ ap (outcome_at a.node (Comes event) stopped) a.is_up
    in
    record {
      node = a.node;
      now = a.now;
      outcome = outcome_of world (Ask a.node call a.now) stopped;
      recorded = history_at es w number (Ask a.node call a.now) a.stop a.event;
      taken = ap is_taken is ∙ step_taken stopped a.state event (group_step a.node a.state event) goes;
    }
