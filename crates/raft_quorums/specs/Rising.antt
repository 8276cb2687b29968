-- Lists in rising order.
use Rattle.std.specs.Prelude.{◌≡◌, List, [], ◌∷◌, map}
use Rattle.std.specs.declared.cmp.Ordering.{Ordering}
use Rattle.std.specs.declared.cmp.Ordering.TheVariants.{Less}

-- x is below each of the list
abbrev pub IsBelowAll : {K : Type 0} → (K → K → Ordering) → K → List K → Type 0
IsBelowAll cmp x [] = Unit {0}
IsBelowAll cmp x (y ∷ ys) = (cmp x y ≡ Less) × IsBelowAll cmp x ys

-- each is below all that follow it
abbrev pub IsRising : {K : Type 0} → (K → K → Ordering) → List K → Type 0
IsRising cmp [] = Unit {0}
IsRising cmp (x ∷ xs) = IsBelowAll cmp x xs × IsRising cmp xs

-- pairs in rising order of what comes first in them
abbrev pub IsRisingByFirst : {K X : Type 0} → (K → K → Ordering) → List (K × X) → Type 0
IsRisingByFirst {K} {X} cmp pairs = IsRising cmp (map (λ (p : K × X). p.0) pairs)
