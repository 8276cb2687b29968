-- The handler gets the engine, and gives it back.
use Rattle.std.proofs.Common.{rules, sym, subst}
use Rattle.std.proofs.lemmas.Result.{on_ok_weaker}
use Rattle.raft_group_step.specs.StepResult.{step_down}
use Rattle.raft_engine.specs.Standing.{IsStepOf}
use Rattle.raft_engine.proofs.engine.Engine.leader_step_down.Goals as goal

pub returns : goal.returns
returns g c = λ x own r step.
    on_ok_weaker c.become_following.result
    (λ h. subst (λ e. IsStepOf x own e (step_down r)) (search rules) h)
    (c.become_following.ensures.step x own r (subst (λ e. IsStepOf x own e r) (sym c.vote_handler.ensures.value) step))
