-- Entries that pass a test, counted up.
use Rattle.std.proofs.Common.{◌≡◌, ◌⊎◌, inl, inr, ℕ, zero, suc, ◌+◌, ◌<◌, ◌≤◌, Bool, true, false, if◌then◌else◌, Option, Some, None, refl, sym, ap, ◌∙◌, arith, add-one, subst}
use Rattle.std.proofs.lemmas.Bool.{cases_lt}
use Rattle.raft_log_records.specs.declared.item.EntryIndex.{EntryIndex}
use Rattle.raft_log_traced.specs.Traced.{lies_in}
use Rattle.raft_log_cleaner.specs.Facts.{count_passing, passes}

module _ (test : Option ℕ → Bool) (entry : ℕ → Option EntryIndex) where
  one_more : (b : Bool) (n m : ℕ) → n ≤ m → n + (if b then 1 else 0) ≤ m + 1
  one_more true n m l = omega arith
  one_more false n m l = omega arith

  -- no more than there are indexes
  pub passing_most : (n : ℕ) → count_passing test entry n ≤ n
  passing_most zero = omega arith
  passing_most (suc n) = rw (← add-one n) (one_more (passes test (entry n)) (count_passing test entry n) n (passing_most n))

  -- with one index more
  pub passing_next : (n : ℕ) → count_passing test entry (n + 1) ≡ count_passing test entry n + (if passes test (entry n) then 1 else 0)
  passing_next n = ap (count_passing test entry) (add-one n)

  none_more : (n : ℕ) → entry n ≡ None → count_passing test entry (suc n) ≡ count_passing test entry n
  none_more n none = ap (λ (o : Option EntryIndex). count_passing test entry n + (if passes test o then 1 else 0)) none ∙ omega arith

  -- indexes without an entry add none
  pub passing_over : (from n : ℕ) → from ≤ n → ((i : ℕ) → from ≤ i → i < n → entry i ≡ None) → count_passing test entry n ≡ count_passing test entry from
  passing_over from zero l none = let same : from ≡ 0 = omega arith in ap (count_passing test entry) (sym same)
  passing_over from (suc n) l none = by_place (λ behind. passing_over from n behind (λ i a b. none i a (omega arith))) (cases_lt n from)
    where
      by_place : (from ≤ n → count_passing test entry n ≡ count_passing test entry from) → (n < from) ⊎ (from ≤ n) → count_passing test entry (suc n) ≡ count_passing test entry from
      by_place rest (inl before) = let same : suc n ≡ from = omega arith in ap (count_passing test entry) same
      by_place rest (inr behind) = none_more n (none n behind (omega arith)) ∙ rest behind

  -- up to an entry
  pub passing_to : (from index : ℕ) (e : EntryIndex) → from ≤ index → ((i : ℕ) → from ≤ i → i < index → entry i ≡ None) → entry index ≡ Some e
      → count_passing test entry (index + 1) ≡ count_passing test entry from + (if test (lies_in e) then 1 else 0)
  passing_to from index e l none is =
      passing_next index
      ∙ ap (λ (o : Option EntryIndex). count_passing test entry index + (if passes test o then 1 else 0)) is
      ∙ ap (λ (n : ℕ). n + (if test (lies_in e) then 1 else 0)) (passing_over from index l none)
