use Rattle.std.proofs.Common.{◌∙◌, ap, sym, subst, arith, ◌++◌}
use Rattle.std.proofs.lemmas.List.{take_all}
use Rattle.raft_group_step.specs.Elect.{ask as ask_step}
use Rattle.raft_engine.specs.Standing.{IsStepOf}
use Rattle.raft_engine.proofs.ElectionLemmas.{asked, requests, with_queue}
use Rattle.raft_engine.specs.Standing.{Engine}
use Rattle.raft_engine.proofs.engine.Engine.ask.Goals as goal

pub returns-clause-step : goal.returns-clause-step
returns-clause-step g c = λ x own r step vote last.
    let e = c.args.self.now in
    let req = c.args.vote_req in
    let all = take_all c.loop-target.target-index c.args.voters.now (omega (arith, c.loop-target-test.false)) in
    subst (λ y. IsStepOf x own y (ask_step own c.args.voters.now r))
    (sym (c.loop-target.invariant ∙ ap (λ ns. with_queue x own req e (e.output.queue ++ requests x own req ns)) all))
    (asked x own req c.args.voters.now e r step vote last)

pub returns-clause-leader : goal.returns-clause-leader
returns-clause-leader g c = ap (λ (y : Engine _ _). y.leader) c.loop-target.invariant
