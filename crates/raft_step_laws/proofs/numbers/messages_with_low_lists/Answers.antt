use Rattle.std.proofs.Common.{arith}
use Rattle.raft_group_step.specs.StepExample.{blank_at}
use Rattle.raft_step_laws.specs.NumberRows.{past}
use Rattle.raft_step_laws.proofs.LowWords.{not_below_itself}
use Rattle.raft_step_laws.proofs.numbers.messages_with_low_lists.Goals as goal

pub returns-clause-listed : goal.returns-clause-listed
returns-clause-listed c = λ h. not_below_itself past (h.«prefix» 0 (blank_at 0) (omega arith) 1 0 (omega arith))

pub returns-clause-comes_past : goal.returns-clause-comes_past
returns-clause-comes_past c = λ h. not_below_itself past (h 0 (blank_at 0) (omega arith) 1 0 (omega arith))
