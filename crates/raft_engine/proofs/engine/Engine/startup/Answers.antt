-- A lead that goes on has room for the end of the event.
use Rattle.std.proofs.Common.{refl, arith}
use Rattle.raft_group_step.specs.Opening.{resume_lead}
use Rattle.raft_group_step.specs.StepResult.{unchanged}
use Rattle.raft_engine.specs.Standing.{given_at_start}
use Rattle.raft_engine.proofs.EventLemmas.{step_at_start}
use Rattle.raft_engine.proofs.OpeningLemmas.{resume_finishes}
use Rattle.std.proofs.lemmas.Result.{on_ok_weaker}
use Rattle.raft_engine.proofs.ClockLemmas.{begins_then}
use Rattle.raft_engine.proofs.engine.Engine.startup.Goals as goal

pub returns-clause-started : goal.returns-clause-started
returns-clause-started g c = λ x own s stands empty ready follows.
    let e = c.args.self.now in
    let places = ready.places in
    let resumed = c.in_ok-resume_lead.ensures.step (given_at_start x e s) own (unchanged s) (step_at_start x own e s stands empty follows) empty refl follows (omega (arith, places)) in
    c.finish.ensures.step (given_at_start x e s) own (resume_lead own (unchanged s)) resumed (resume_finishes own s ready follows)

pub returns-clause-heard : goal.returns-clause-heard
returns-clause-heard g c =
    on_ok_weaker c.finish.result (begins_then c.args.self.now.leader c.resume_lead.new.self.leader c.finish.new.self.leader c.in_ok-resume_lead.ensures.heard) c.finish.ensures.heard
