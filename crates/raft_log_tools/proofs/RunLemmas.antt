-- Where the last run of numbers begins.
use Rattle.std.proofs.Common.{◌≡◌, ◌≢◌, inl, inr, ℕ, zero, suc, ◌+◌, ◌-◌, ◌<◌, ◌≤◌, List, [], ◌∷◌, length, get_or, refl, ap, sym, ◌∙◌, arith}
use Rattle.std.proofs.lemmas.Bool.{cases_lt}
use Rattle.raft_log_recovery.specs.declared.scan.FileName.{FileName}
use Rattle.raft_log_recovery.specs.Scan.{seq_at}

seq_is : (files : List FileName) (i : ℕ) (d : FileName) → i < length files → (get_or files i d).seq ≡ seq_at files i
seq_is [] i d within = absurd (omega arith)
seq_is (f ∷ files) zero d within = refl
seq_is (f ∷ files) (suc i) d within = seq_is files i d (omega arith)

abbrev pub Follows : List FileName → ℕ → FileName → Type 0
Follows files i d = (get_or files i d).seq ≡ (get_or files (i - 1) d).seq + 1

-- the run goes on
pub run_goes_on : (files : List FileName) (i start : ℕ) (d : FileName) → 0 < i → i < length files → Follows files i d
    → ((k : ℕ) → start ≤ k → k + 1 < i → seq_at files (k + 1) ≡ seq_at files k + 1) → (k : ℕ) → start ≤ k → k + 1 < i + 1 → seq_at files (k + 1) ≡ seq_at files k + 1
run_goes_on files i start d some within follows run k from below = elim (cases_lt (k + 1) i) [
  | inl before ↦ run k from before
  | inr here ↦ at_last (omega (arith, here, below))
]
  where
    at_last : k + 1 ≡ i → seq_at files (k + 1) ≡ seq_at files k + 1
    at_last is =
        let place : k ≡ i - 1 = omega (arith, is) in
        ap (λ n. seq_at files n) is ∙ sym (seq_is files i d within) ∙ follows ∙ ap (λ n. n + 1) (seq_is files (i - 1) d (omega (arith, within)) ∙ ap (λ n. seq_at files n) (sym place))

-- a run begins where a number doesn't follow
pub run_breaks : (files : List FileName) (i : ℕ) (d : FileName) → i < length files → (Follows files i d → ⊥) → seq_at files i ≢ seq_at files (i - 1) + 1
run_breaks files i d within breaks is = breaks (seq_is files i d within ∙ is ∙ ap (λ n. n + 1) (sym (seq_is files (i - 1) d (omega (arith, within)))))
