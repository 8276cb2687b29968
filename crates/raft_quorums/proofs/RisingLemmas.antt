-- Lists in rising order, some of whose things leave.
use Rattle.std.specs.Prelude.{Bool, true, false, cond, List, [], ◌∷◌, map}
use Rattle.std.specs.List.{filter}
use Rattle.std.specs.declared.cmp.Ordering.{Ordering}
use Rattle.raft_quorums.specs.Rising.{IsBelowAll, IsRising, IsRisingByFirst}

-- what is in order stays in order where some leave
pub below-filter : {K : Type 0} (cmp : K → K → Ordering) (p : K → Bool) (x : K) (xs : List K) → IsBelowAll cmp x xs → IsBelowAll cmp x (filter p xs)
below-filter cmp p x [] h = tt
below-filter cmp p x (y ∷ ys) h =
    elim (p y) as (λ b. IsBelowAll cmp x (cond b (y ∷ filter p ys) (filter p ys))) [
      | true ↦ (h.0, below-filter cmp p x ys h.1)
      | false ↦ below-filter cmp p x ys h.1
    ]

pub rising-filter : {K : Type 0} (cmp : K → K → Ordering) (p : K → Bool) (xs : List K) → IsRising cmp xs → IsRising cmp (filter p xs)
rising-filter cmp p [] h = tt
rising-filter cmp p (x ∷ xs) h =
    elim (p x) as (λ b. IsRising cmp (cond b (x ∷ filter p xs) (filter p xs))) [
      | true ↦ (below-filter cmp p x xs h.0, rising-filter cmp p xs h.1)
      | false ↦ rising-filter cmp p xs h.1
    ]

pub below-filter_first : {K X : Type 0} (cmp : K → K → Ordering) (p : K × X → Bool) (x : K) (xs : List (K × X)) → IsBelowAll cmp x (map (λ (e : K × X). e.0) xs) → IsBelowAll cmp x (map (λ (e : K × X). e.0) (filter p xs))
below-filter_first cmp p x [] h = tt
below-filter_first {K} {X} cmp p x (y ∷ ys) h =
    elim (p y) as (λ b. IsBelowAll cmp x (map (λ (e : K × X). e.0) (cond b (y ∷ filter p ys) (filter p ys)))) [
      | true ↦ (h.0, below-filter_first cmp p x ys h.1)
      | false ↦ below-filter_first cmp p x ys h.1
    ]

pub rising_by_first-filter : {K X : Type 0} (cmp : K → K → Ordering) (p : K × X → Bool) (xs : List (K × X)) → IsRisingByFirst cmp xs → IsRisingByFirst cmp (filter p xs)
rising_by_first-filter cmp p [] h = tt
rising_by_first-filter {K} {X} cmp p (x ∷ xs) h =
    elim (p x) as (λ b. IsRisingByFirst cmp (cond b (x ∷ filter p xs) (filter p xs))) [
      | true ↦ (below-filter_first cmp p x.0 xs h.0, rising_by_first-filter cmp p xs h.1)
      | false ↦ rising_by_first-filter cmp p xs h.1
    ]
