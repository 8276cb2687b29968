-- The ids that pass a test, among those that are there.
use Rattle.std.proofs.Common.{◌≡◌, ◌∙◌, ℕ, ap, sym, arith, refl, subst}
use Rattle.std.specs.Prelude.{Bool, true, false, List, [], ◌∷◌, filter, ◌&&◌, IfOk, Result, Ok, Err}
use Rattle.std.specs.Ordering.{eq_by_cmp, nat_cmp}
use Rattle.std.specs.List.Sorted.{IsStrictlySortedBy}
use Rattle.std.specs.Set.{is_member}
use Rattle.std.proofs.lemmas.List.Kept.{IsStrictlySortedBy-filter}
use Rattle.std.proofs.lemmas.Cmp.{eq_by_cmp_equiv, nat_cmp_total}
use Rattle.std.proofs.lemmas.Bool.Decides.{nat_tests}
use Rattle.std.proofs.lemmas.Map.Made.{is_member-filter}

-- ids that no order tells apart are one
pub same_number : (a b : ℕ) → eq_by_cmp nat_cmp a b ≡ true → a ≡ b
same_number a b h = grind (arith, nat_tests)

both : (has test : Bool) → (has ≡ false → test ≡ false) → (has && test) ≡ test
both true test none = refl
both false test none = sym (none refl)

-- where an id that isn't there doesn't pass, those that pass among those that are there are all that pass
pub is_member-passing : (test : ℕ → Bool) (ids : List ℕ) (id : ℕ) → (is_member (eq_by_cmp nat_cmp) ids id ≡ false → test id ≡ false)
    → is_member (eq_by_cmp nat_cmp) (filter test ids) id ≡ test id
is_member-passing test ids id none =
    is_member-filter (eq_by_cmp_equiv nat_cmp_total) test id (λ x same. ap test (same_number id x same)) ids
    ∙ both (is_member (eq_by_cmp nat_cmp) ids id) (test id) none

-- ---- ids as a call answers them

module _ {V F : Type 0} (items : V → List ℕ) (test : ℕ → Bool) (ids : List ℕ) where
  pub rises-passing : (r : Result V F) → IsStrictlySortedBy nat_cmp ids → IfOk r (λ v. items v ≡ filter test ids) → IfOk r (λ v. IsStrictlySortedBy nat_cmp (items v))
  rises-passing (Ok v) rising same = subst (IsStrictlySortedBy nat_cmp) (sym same) (IsStrictlySortedBy-filter nat_cmp test ids rising)
  rises-passing (Err why) rising same = tt

  pub names-passing : (r : Result V F) (id : ℕ) (passes : Bool) → (is_member (eq_by_cmp nat_cmp) ids id ≡ false → test id ≡ false) → test id ≡ passes
      → IfOk r (λ v. items v ≡ filter test ids) → IfOk r (λ v. is_member (eq_by_cmp nat_cmp) (items v) id ≡ passes)
  names-passing (Ok v) id passes none is same = ap (λ (l : List ℕ). is_member (eq_by_cmp nat_cmp) l id) same ∙ is_member-passing test ids id none ∙ is
  names-passing (Err why) id passes none is same = tt

-- one id rises, and so does none
pub rises-none : (ids : List ℕ) → ids ≡ [] → IsStrictlySortedBy nat_cmp ids
unfolding IsStrictlySortedBy
rises-none ids same = subst (IsStrictlySortedBy nat_cmp) (sym same) tt

pub rises-one : (ids : List ℕ) (id : ℕ) → ids ≡ id ∷ [] → IsStrictlySortedBy nat_cmp ids
unfolding IsStrictlySortedBy
rises-one ids id same = subst (IsStrictlySortedBy nat_cmp) (sym same) (tt, tt)
