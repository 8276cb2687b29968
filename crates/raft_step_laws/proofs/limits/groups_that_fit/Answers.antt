use Rattle.std.specs.Prelude.{◌≡◌, true, false, refl}
use Rattle.std.proofs.Common.{arith}
use Rattle.raft_group_step.specs.StepExample.{blank_at}
use Rattle.raft_step_laws.proofs.limits.groups_that_fit.Goals as goal

pub returns-clause-misplaced : goal.returns-clause-misplaced
returns-clause-misplaced c = λ h. let p = h.placed 0 (blank_at 1) refl in omega arith

pub returns-clause-gap : goal.returns-clause-gap
returns-clause-gap c = λ h. let p = h.placed 1 (blank_at 2) refl in omega arith

pub returns-clause-wide : goal.returns-clause-wide
returns-clause-wide c = λ h. let e : false ≡ true = h.entries 0 (blank_at 0) (omega arith) in cc
