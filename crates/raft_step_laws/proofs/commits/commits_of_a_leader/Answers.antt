use Rattle.std.specs.Prelude.{◌≡◌, true, false, refl}
use Rattle.std.proofs.Common.{arith}
use Rattle.raft_group_step.specs.StepExample.{other_blank_at}
use Rattle.raft_step_laws.specs.TokenRows.{waits}
use Rattle.raft_step_laws.proofs.commits.commits_of_a_leader.Goals as goal

pub returns-clause-nothing : goal.returns-clause-nothing
returns-clause-nothing c =
    λ h. let e : false ≡ true = h (other_blank_at 3) (3, omega arith, refl) refl refl in cc

pub returns-clause-not_all : goal.returns-clause-not_all
returns-clause-not_all c =
    λ h. let e : false ≡ true = h (other_blank_at 3) (3, omega arith, refl) refl refl in cc

pub returns-clause-waits : goal.returns-clause-waits
returns-clause-waits c =
    λ h. let e : true ≡ false = h (waits 7 3) (0, omega arith, refl) (other_blank_at 3) refl refl in cc
