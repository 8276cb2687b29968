-- The node stands for election, and a lead that begins has room for the end of the event.
use Rattle.std.proofs.Common.{sym, arith}
use Rattle.std.proofs.lemmas.Result.{on_ok_weaker}
use Rattle.raft_group_step.specs.GroupEvent.{Call}
use Rattle.raft_group_step.specs.declared.group_call.GroupCall.TheVariants.{Elect}
use Rattle.raft_group_step.specs.Elect.{elect_step}
use Rattle.raft_group_step.specs.GroupStep.{begun}
use Rattle.raft_engine.proofs.ElectionEvents.{term_left}
use Rattle.raft_engine.specs.Standing.{given}
use Rattle.raft_engine.proofs.EventLemmas.{event_taken, step_begun}
use Rattle.raft_engine.proofs.NewLeadLemmas.{elect_finishes}
use Rattle.raft_engine.proofs.ClockLemmas.{nobody_then}
use Rattle.raft_engine.proofs.engine.Engine.elect.Goals as goal

pub returns-clause-taken : goal.returns-clause-taken
returns-clause-taken g c = λ x own at s now may.
    let e = c.args.self.now in
    let term = term_left own at s may.accepted in
    let places = may.ready.places in
    let stood =
    c.in_ok-elect_part.ensures.step (given x e s) own (begun at s) (step_begun x own at e s may.stands may.empty) (sym now)
    (omega (arith, term)) (omega (arith, places)) in
    on_ok_weaker c.finish.result (λ h. event_taken x own e c.finish.new.self s (Call Elect at) may h)
    (c.finish.ensures.step (given x e s) own (elect_step own (begun at s)) stood (elect_finishes own (begun at s) places))

pub returns-clause-heard : goal.returns-clause-heard
returns-clause-heard g c =
    on_ok_weaker c.finish.result (nobody_then c.elect_part.new.self.leader c.finish.new.self.leader c.in_ok-elect_part.ensures.heard) c.finish.ensures.heard
