-- What follows from a total order, by its tests.
use Rattle.std.proofs.Common.{◌≡◌, refl, ap, sym, ◌∙◌}
use Rattle.std.specs.Prelude.{Bool, true, false}
use Rattle.std.specs.declared.cmp.Ordering.{Ordering}
use Rattle.std.specs.declared.cmp.Ordering.TheVariants.{Less, Equal, Greater}
use Rattle.std.specs.Ordering.{is_lt, is_le, is_eq, ordering_reverse}
use Rattle.std.specs.Cmp.{IsTotalOrder, tied_itself, tied_back, alike_right}

pub bool_cases : {G : Type 0} (b : Bool) → (b ≡ true → G) → (b ≡ false → G) → G
bool_cases true f g = f refl
bool_cases false f g = g refl

le_cases : {G : Type 0} (r : Ordering) → is_le r ≡ true → (r ≡ Less → G) → (r ≡ Equal → G) → G
le_cases Less h f g = f refl
le_cases Equal h f g = g refl
le_cases Greater h f g = cc h

lt_is : (r : Ordering) → is_lt r ≡ true → r ≡ Less
lt_is Less h = refl
lt_is Equal h = cc h
lt_is Greater h = cc h

eq_is : (r : Ordering) → is_eq r ≡ true → r ≡ Equal
eq_is Less h = cc h
eq_is Equal h = refl
eq_is Greater h = cc h

turned_le : (r : Ordering) → is_lt r ≡ false → is_le (ordering_reverse r) ≡ true
turned_le Less h = cc h
turned_le Equal h = refl
turned_le Greater h = refl

turned_lt : (r : Ordering) → is_le r ≡ false → is_lt (ordering_reverse r) ≡ true
turned_lt Less h = cc h
turned_lt Equal h = cc h
turned_lt Greater h = refl

turned_not : (r : Ordering) → is_le r ≡ true → is_lt (ordering_reverse r) ≡ false
turned_not Less h = refl
turned_not Equal h = refl
turned_not Greater h = cc h

lt_weak : (r : Ordering) → is_lt r ≡ true → is_le r ≡ true
lt_weak Less h = refl
lt_weak Equal h = cc h
lt_weak Greater h = cc h

eq_weak : (r : Ordering) → is_eq r ≡ true → is_le r ≡ true
eq_weak Less h = cc h
eq_weak Equal h = refl
eq_weak Greater h = cc h

both_weak : (r : Ordering) → is_le r ≡ true → is_le (ordering_reverse r) ≡ true → is_eq r ≡ true
both_weak Less h k = cc k
both_weak Equal h k = refl
both_weak Greater h k = cc h

module _ {P : Type 0} {cmp : P → P → Ordering} (o : IsTotalOrder cmp) where
  pub le_if_not_lt : (a b : P) → is_lt (cmp a b) ≡ false → is_le (cmp b a) ≡ true
  le_if_not_lt a b h = ap is_le (o.antisymm b a) ∙ turned_le (cmp a b) h

  pub lt_if_not_le : (a b : P) → is_le (cmp a b) ≡ false → is_lt (cmp b a) ≡ true
  lt_if_not_le a b h = ap is_lt (o.antisymm b a) ∙ turned_lt (cmp a b) h

  pub not_lt_if_le : (a b : P) → is_le (cmp a b) ≡ true → is_lt (cmp b a) ≡ false
  not_lt_if_le a b h = ap is_lt (o.antisymm b a) ∙ turned_not (cmp a b) h

  pub le_if_lt : (a b : P) → is_lt (cmp a b) ≡ true → is_le (cmp a b) ≡ true
  le_if_lt a b h = lt_weak (cmp a b) h

  pub le_if_eq : (a b : P) → is_eq (cmp a b) ≡ true → is_le (cmp a b) ≡ true
  le_if_eq a b h = eq_weak (cmp a b) h

  pub eq_if_both : (a b : P) → is_le (cmp a b) ≡ true → is_le (cmp b a) ≡ true → is_eq (cmp a b) ≡ true
  eq_if_both a b h k = both_weak (cmp a b) h (ap is_le (sym (o.antisymm b a)) ∙ k)

  pub eq_back : (a b : P) → is_eq (cmp a b) ≡ true → is_eq (cmp b a) ≡ true
  eq_back a b h = ap is_eq (tied_back o a b (eq_is (cmp a b) h))

  pub le_self : (a : P) → is_le (cmp a a) ≡ true
  le_self a = ap is_le (tied_itself o a)

  pub eq_self : (a : P) → is_eq (cmp a a) ≡ true
  eq_self a = ap is_eq (tied_itself o a)

  pub lt_le : (a b c : P) → is_lt (cmp a b) ≡ true → is_le (cmp b c) ≡ true → is_lt (cmp a c) ≡ true
  lt_le a b c h k =
      le_cases (cmp b c) k (λ e. ap is_lt (o.trans a b c (lt_is (cmp a b) h) e)) (λ e. ap is_lt (sym (alike_right o b c a e)) ∙ h)

  pub le_lt : (a b c : P) → is_le (cmp a b) ≡ true → is_lt (cmp b c) ≡ true → is_lt (cmp a c) ≡ true
  le_lt a b c h k =
      le_cases (cmp a b) h (λ e. ap is_lt (o.trans a b c e (lt_is (cmp b c) k))) (λ e. ap is_lt (o.congr a b c e) ∙ k)

  pub le_le : (a b c : P) → is_le (cmp a b) ≡ true → is_le (cmp b c) ≡ true → is_le (cmp a c) ≡ true
  le_le a b c h k =
      le_cases (cmp a b) h (λ e. le_if_lt a c (lt_le a b c (ap is_lt e) k)) (λ e. ap is_le (o.congr a b c e) ∙ k)
