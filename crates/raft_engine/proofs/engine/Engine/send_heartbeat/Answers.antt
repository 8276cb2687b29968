-- Notices change no state.
use Rattle.std.proofs.Common.{refl}
use Rattle.std.specs.Prelude.{◌∷◌, []}
use Rattle.raft_engine.proofs.ForwardLemmas.{must_lead, unled}
use Rattle.raft_group_step.specs.declared.group_call.GroupCall.TheVariants.{Heartbeat}
use Rattle.raft_group_step.specs.GroupEvent.{Call}
use Rattle.raft_group_step.specs.GroupStep.{begun}
use Rattle.raft_group_step.specs.Heartbeat.{heartbeat_step}
use Rattle.raft_group_step.specs.Refusal.{lead_reason, range_reason}
use Rattle.raft_engine.specs.Standing.{given}
use Rattle.raft_engine.proofs.EventLemmas.{event_taken, no_first_reason, step_begun}
use Rattle.raft_engine.proofs.LeaderFinish.{finish_beat}
use Rattle.raft_engine.proofs.RoomLemmas.{call_accepted, can_finish_when_ready, finish_at, lead_accepted}
use Rattle.raft_engine.proofs.ClockLemmas.{keeps_same, keeps_then, keeps_untouched}
use Rattle.raft_engine.proofs.engine.Engine.send_heartbeat.Goals as goal

pub returns-clause-taken : goal.returns-clause-taken
returns-clause-taken g c = λ x own at s may.
    let old = c.args.self.now in
    let event = Call Heartbeat at in
    let range = (no_first_reason (range_reason s (at ∷ [])) (lead_reason s ∷ []) (call_accepted own at s Heartbeat may.accepted)).0 in
    let can = finish_at own (begun at s).state.now s (can_finish_when_ready own s (at ∷ []) may.ready range) in
    let step = c.in_ok-notices.ensures.step (given x old s) own (begun at s) (step_begun x own at old s may.stands may.empty) in (
      refl,
      event_taken x own old c.finish.new.self s event may
          (c.in_ok-finish.ensures.step (given x old s) own (heartbeat_step own (begun at s)) step (finish_beat own (begun at s) can)),
    )

pub returns-in-Some-clause-taken : goal.returns-in-Some-clause-taken
returns-in-Some-clause-taken g c = λ x own at s may.
    let old = c.args.self.now in
    let reasons = (no_first_reason (range_reason s (at ∷ [])) (lead_reason s ∷ []) (call_accepted own at s Heartbeat may.accepted)).1 in
    let lead = lead_accepted s (no_first_reason (lead_reason s) [] reasons).0 in
    must_lead own old s lead.0 may.stands lead.1 (unled old.leader c.in-Some.ensures.leads)

pub returns-clause-heard : goal.returns-clause-heard
returns-clause-heard g c =
    let old = c.args.self.now.leader in
    let told = c.notices.new.self.leader in
    keeps_then old told c.finish.new.self.leader (keeps_untouched old told c.notices.ensures.leader) c.in_ok-finish.ensures.heard

pub returns-in-Some-clause-heard : goal.returns-in-Some-clause-heard
returns-in-Some-clause-heard g c = keeps_same c.args.self.now.leader
