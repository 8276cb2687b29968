use Rattle.std.specs.Prelude.{◌≡◌, true, false, [], ◌∷◌, refl}
use Rattle.raft_step_laws.proofs.elections.candidates_without_a_quorum.Goals as goal

pub returns-clause-two : goal.returns-clause-two
returns-clause-two c = λ h. let e : true ≡ false = h (2 ∷ 3 ∷ []) refl in cc
