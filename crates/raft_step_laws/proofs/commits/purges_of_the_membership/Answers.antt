use Rattle.std.specs.Prelude.{◌≡◌, true, false, [], ◌∷◌, refl}
use Rattle.std.proofs.Common.{arith}
use Rattle.raft_group_step.specs.StepExample.{other_blank_at}
use Rattle.raft_step_laws.proofs.commits.purges_of_the_membership.Goals as goal

pub returns-clause-commits : goal.returns-clause-commits
returns-clause-commits c =
    λ h. let e : false ≡ true = h (other_blank_at 3) (1, omega arith, refl) refl refl in cc

pub returns-clause-grants : goal.returns-clause-grants
returns-clause-grants c = λ h. let e : true ≡ false = h (2 ∷ []) refl in cc
