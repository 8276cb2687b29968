use Rattle.std.specs.Prelude.{◌≡◌, true, false, refl}
use Rattle.std.proofs.Common.{arith}
use Rattle.raft_group_step.specs.StepExample.{blank_at}
use Rattle.raft_step_laws.proofs.limits.commands_that_fit.Goals as goal

pub returns-clause-elsewhere : goal.returns-clause-elsewhere
returns-clause-elsewhere c = λ h. let p = h.placed 0 (blank_at 5) refl in omega arith

pub returns-clause-wide : goal.returns-clause-wide
returns-clause-wide c = λ h. let e : false ≡ true = h.entries 0 (blank_at 0) (omega arith) in cc
