use Rattle.std.specs.Prelude.{◌≡◌, ℕ, zero, suc, ◌<◌, [], ◌∷◌, slice_get, refl}
use Rattle.std.proofs.Common.{ap, arith}
use Rattle.raft_group_step.specs.Values.{Entry}
use Rattle.raft_laws.specs.LawRuns.{blank_at}
use Rattle.raft_laws.proofs.BallotAgreement.{same_some}
use Rattle.raft_laws.proofs.law_runs.lists_that_agree.Goals as goal

apart : (a b : ℕ) → a < b → a ≡ b → ⊥
apart a b l e = omega arith

first_two_same : (j : ℕ) → j < 2 → slice_get (blank_at 0 ∷ blank_at 1 ∷ blank_at 2 ∷ []) j ≡ slice_get (blank_at 0 ∷ blank_at 1 ∷ blank_at 3 ∷ []) j
first_two_same zero l = refl
first_two_same (suc zero) l = refl
first_two_same (suc (suc j)) l = absurd (omega arith)

pub returns-clause-agree : goal.returns-clause-agree
returns-clause-agree c = record { left = omega arith; right = omega arith; same = first_two_same }

pub returns-clause-differ : goal.returns-clause-differ
returns-clause-differ c = λ h.
    let last : blank_at 2 ≡ blank_at 3 = same_some (h.same 2 (omega arith)) in
    apart 2 3 (omega arith) (ap (λ (e : Entry). e.log_id.index) last)

pub returns-clause-short : goal.returns-clause-short
returns-clause-short c = λ h. let l = h.right in omega arith
