use Rattle.std.proofs.Common.{arith}
use Rattle.raft_group_step.specs.StepExample.{blank_at}
use Rattle.raft_step_laws.specs.NumberRows.{past}
use Rattle.raft_step_laws.proofs.LowWords.{not_below_itself}
use Rattle.raft_step_laws.proofs.numbers.stored_parts_with_low_numbers.Goals as goal

pub returns-clause-logged : goal.returns-clause-logged
returns-clause-logged c = λ h. not_below_itself past (h.log 0 (blank_at 0) (omega arith) 1 0 (omega arith))

pub returns-clause-listed : goal.returns-clause-listed
returns-clause-listed c = λ h. not_below_itself past (h.snapshot.entries 0 (blank_at 0) (omega arith) 1 0 (omega arith))
