use Rattle.raft_laws.proofs.StepOrder.{step-keeps}
use Rattle.raft_laws.proofs.law.step_stores_its_commands.Goals as goal

pub returns : goal.returns
returns c = step-keeps
