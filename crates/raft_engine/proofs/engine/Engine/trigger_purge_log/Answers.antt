-- What a ready state's snapshot covers may go, at once or later.
use Rattle.std.specs.Prelude.{◌<◌, ◌^◌, ◌∷◌, []}
use Rattle.std.proofs.Common.{arith, rules, sym, subst}
use Rattle.std.proofs.lemmas.Result.{on_ok_weaker}
use Rattle.raft_group_step.specs.declared.group_call.GroupCall.TheVariants.{TriggerPurge}
use Rattle.raft_group_step.specs.GroupEvent.{Call}
use Rattle.raft_group_step.specs.GroupStep.{begun}
use Rattle.raft_group_step.specs.PurgeTrigger.{purge_trigger_step}
use Rattle.raft_group_step.specs.Refusal.{range_reason}
use Rattle.raft_group_step.specs.StoredGroup.{end_place}
use Rattle.raft_engine.specs.Standing.{Engine, IsStepOf, given}
use Rattle.raft_engine.proofs.EventLemmas.{event_taken, no_first_reason, step_begun}
use Rattle.raft_engine.proofs.LeaderFinish.{finish_purged}
use Rattle.raft_engine.proofs.RoomLemmas.{call_accepted, can_finish_when_ready, finish_at, ready_at}
use Rattle.raft_engine.specs.Clock.{KeepsHeard}
use Rattle.raft_engine.proofs.ClockLemmas.{keeps_then}
use Rattle.raft_engine.proofs.engine.Engine.trigger_purge_log.Goals as goal

pub returns-clause-taken : goal.returns-clause-taken
returns-clause-taken g c = λ x own at s may.
    let old = c.args.self.now in
    let place = c.args.place in
    let event = Call (TriggerPurge place) at in
    let r = begun at s in
    let ready = ready_at own r.state.now s may.ready in
    let places = ready.places in
    let fits : end_place s.stored < 2 ^ 64 = omega arith in
    let range = (no_first_reason (range_reason s (at ∷ [])) [] (call_accepted own at s (TriggerPurge place) may.accepted)).0 in
    let can = finish_at own r.state.now s (can_finish_when_ready own s (at ∷ []) may.ready range) in
    let step =
    c.in_ok-update_purge_upto.ensures.step (given x old s) own r
    (subst (λ e. IsStepOf (given x old s) own e r) (sym c.log_handler.ensures.value) (step_begun x own at old s may.stands may.empty)) fits in
    on_ok_weaker c.finish.result (event_taken x own old c.finish.new.self s event may)
    (c.finish.ensures.step (given x old s) own (purge_trigger_step place r)
    (subst (λ e. IsStepOf (given x old s) own e (purge_trigger_step place r)) (search rules) step) (finish_purged own r ready place can))

pub returns-clause-heard : goal.returns-clause-heard
returns-clause-heard g c =
    let old = c.args.self.now in
    let lent = c.update_purge_upto.new.self.engine.now in
    let kept : KeepsHeard old.leader lent.leader =
    subst (λ (e : Engine _ _). KeepsHeard e.leader lent.leader) c.log_handler.ensures.value c.in_ok-update_purge_upto.ensures.heard in
    on_ok_weaker c.finish.result
    (keeps_then old.leader _ c.finish.new.self.leader (subst (λ (e : Engine _ _). KeepsHeard old.leader e.leader) {x = lent} {y = c.self-1.given.0} (search rules) kept))
    c.finish.ensures.heard
