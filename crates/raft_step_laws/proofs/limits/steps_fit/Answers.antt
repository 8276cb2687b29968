use Rattle.raft_step_laws.proofs.FitSteps.{steps_fit}
use Rattle.raft_step_laws.proofs.limits.steps_fit.Goals as goal

pub returns : goal.returns
returns c = steps_fit
