-- What a quorum has reached.
use Rattle.std.specs.Prelude.{◌≡◌, ℕ, zero, suc, Bool, true, ◌&&◌, List, [], ◌∷◌, map, filter, take}
use Rattle.std.specs.declared.cmp.Ordering.{Ordering}
use Rattle.std.specs.Ordering.{is_le, is_eq}
use Rattle.std.specs.List.{AllByRecursion, list_any, list_all}

-- x equals one of the list, and is at least each
abbrev pub IsGreatest : {P : Type 0} → (P → P → Ordering) → P → List P → Type 0
IsGreatest cmp x xs = (list_any (λ y. is_eq (cmp y x)) xs ≡ true) × (list_all (λ y. is_le (cmp y x)) xs ≡ true)

-- each of the list but the one at the index
abbrev pub AllBut : {X : Type 0} → ℕ → (X → Type 0) → List X → Type 0
AllBut at Q [] = Unit {0}
AllBut zero Q (x ∷ xs) = AllByRecursion Q xs
AllBut (suc at) Q (x ∷ xs) = Q x × AllBut at Q xs

module _ {K V P : Type 0} where
  -- what is compared of the value beside an id
  abbrev pub value_of : (V → P) → K × V → P
  value_of compared x = compared x.1

  -- each value is at least those that follow it
  abbrev pub IsFalling : (P → P → Ordering) → (V → P) → List (K × V) → Type 0
  IsFalling cmp compared [] = Unit {0}
  IsFalling cmp compared (x ∷ xs) = AllByRecursion (λ y. is_le (cmp (compared y.1) (compared x.1)) ≡ true) xs × IsFalling cmp compared xs

  -- they fall without the one at the index, which is at least those that follow it
  abbrev pub IsFallingBut : (P → P → Ordering) → (V → P) → ℕ → List (K × V) → Type 0
  IsFallingBut cmp compared at [] = Unit {0}
  IsFallingBut cmp compared zero (x ∷ xs) = IsFalling cmp compared (x ∷ xs)
  IsFallingBut cmp compared (suc at) (x ∷ xs) =
      AllBut at (λ y. is_le (cmp (compared y.1) (compared x.1)) ≡ true) xs × IsFallingBut cmp compared at xs

module _ {K V P : Type 0} (eq : K → K → Bool) (cmp : P → P → Ordering) (compared : V → P) where
  -- the id is of one of them whose value is at least p
  abbrev pub has_reached : List (K × V) → P → K → Bool
  has_reached voters p id = list_any (λ x. eq x.0 id && is_le (cmp p (compared x.1))) voters

  -- those of the voters' values that a quorum has reached
  abbrev pub reached_values : ((K → Bool) → Bool) → List (K × V) → List P
  reached_values accepts voters = filter (λ p. accepts (has_reached voters p)) (map (value_of compared) voters)

  -- granted is the greatest of the default and the values that a quorum has reached
  abbrev pub IsGranted : ((K → Bool) → Bool) → P → P → List (K × V) → Type 0
  IsGranted accepts default granted voters = IsGreatest cmp granted (default ∷ reached_values accepts voters)
