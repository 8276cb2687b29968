-- The number of the peer's next request stays.
use Rattle.std.proofs.Common.{refl}
use Rattle.std.specs.Prelude.{◌∷◌, []}
use Rattle.raft_engine.proofs.ForwardLemmas.{must_lead, unled}
use Rattle.raft_group_step.specs.declared.group_call.GroupCall.TheVariants.{Lost}
use Rattle.raft_group_step.specs.GroupEvent.{Call}
use Rattle.raft_group_step.specs.GroupStep.{begun}
use Rattle.raft_group_step.specs.Lost.{lost_step}
use Rattle.raft_group_step.specs.Refusal.{lead_reason, range_reason}
use Rattle.raft_engine.specs.Standing.{given}
use Rattle.raft_engine.proofs.EventLemmas.{event_taken, no_first_reason, step_begun}
use Rattle.raft_engine.proofs.LeaderFinish.{finish_lost}
use Rattle.raft_engine.proofs.RoomLemmas.{call_accepted, can_finish_when_ready, finish_at, lead_accepted}
use Rattle.raft_engine.proofs.ClockLemmas.{keeps_same, keeps_then}
use Rattle.raft_engine.proofs.engine.Engine.handle_lost.Goals as goal

pub returns-clause-taken : goal.returns-clause-taken
returns-clause-taken g c = λ x own at s may.
    let old = c.args.self.now in
    let peer = c.args.peer in
    let event = Call (Lost peer) at in
    let range = (no_first_reason (range_reason s (at ∷ [])) (lead_reason s ∷ []) (call_accepted own at s (Lost peer) may.accepted)).0 in
    let can = finish_at own (begun at s).state.now s (can_finish_when_ready own s (at ∷ []) may.ready range) in
    let step = c.lost.ensures.step (given x old s) own (begun at s) (step_begun x own at old s may.stands may.empty) in (
      refl,
      event_taken x own old c.finish.new.self s event may
          (c.in_ok-finish.ensures.step (given x old s) own (lost_step peer (begun at s)) step (finish_lost own peer (begun at s) can)),
    )

pub returns-in-Some-clause-taken : goal.returns-in-Some-clause-taken
returns-in-Some-clause-taken g c = λ x own at s may.
    let old = c.args.self.now in
    let peer = c.args.peer in
    let reasons = (no_first_reason (range_reason s (at ∷ [])) (lead_reason s ∷ []) (call_accepted own at s (Lost peer) may.accepted)).1 in
    let lead = lead_accepted s (no_first_reason (lead_reason s) [] reasons).0 in
    must_lead own old s lead.0 may.stands lead.1 (unled old.leader c.in-Some.ensures.leads)

pub returns-clause-heard : goal.returns-clause-heard
returns-clause-heard g c = keeps_then c.args.self.now.leader c.lost.new.self.leader c.finish.new.self.leader c.lost.ensures.heard c.in_ok-finish.ensures.heard

pub returns-in-Some-clause-heard : goal.returns-in-Some-clause-heard
returns-in-Some-clause-heard g c = keeps_same c.args.self.now.leader
