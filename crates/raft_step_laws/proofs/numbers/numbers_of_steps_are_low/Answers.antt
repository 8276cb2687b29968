use Rattle.raft_step_laws.proofs.LowSteps.{steps_send_low}
use Rattle.raft_step_laws.proofs.numbers.numbers_of_steps_are_low.Goals as goal

pub returns : goal.returns
returns c = steps_send_low
