-- The handler gets the engine, notes the part that it plays, and gives it back.
use Rattle.std.proofs.Common.{◌∙◌, ap, rules, sym, subst}
use Rattle.raft_engine.specs.ServerStates.{server_state_of}
use Rattle.raft_engine.specs.Standing.{Engine, IsStepOf, IsWholeStepOf}
use Rattle.raft_engine.proofs.ServerStateLemmas.{part_known}
use Rattle.raft_engine.proofs.StandingLemmas.{step_as_whole}
use Rattle.raft_engine.proofs.engine.Engine.note_part.Goals as goal

pub returns-clause-step : goal.returns-clause-step
returns-clause-step g c = λ x own r step.
    let value = c.server_state_handler.ensures.value in
    let handled = c.update_server_state_if_changed in
    subst (λ e. IsWholeStepOf x own e r) (search rules)
    (step_as_whole x own handled.new.self.engine.now r (handled.ensures.step x own r (subst (λ e. IsStepOf x own e r) (sym value) step))
    (ap (λ (y : Engine _ _). y.state.state.server_state) handled.ensures.noted ∙ ap server_state_of value ∙ part_known own c.args.self.now r.state step.state))
