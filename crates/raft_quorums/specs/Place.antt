-- Where something stands among things in rising order.
use Rattle.std.specs.Prelude.{ℕ, suc, List, [], ◌∷◌, Result, Ok, Err}
use Rattle.std.specs.declared.cmp.Ordering.{Ordering}
use Rattle.std.specs.Ordering.{match_ordering}

-- the place, of a thing that is there or of the gap for one that isn't, with one more before it
abbrev pub after_one : Result ℕ ℕ → Result ℕ ℕ
after_one (Ok place) = Ok (suc place)
after_one (Err gap) = Err (suc gap)

-- the place of what is sought, or else the gap where it belongs
abbrev pub place : {X : Type 0} → (X → Ordering) → List X → Result ℕ ℕ
place sought [] = Err 0
place sought (x ∷ xs) = match_ordering (sought x) (Err 0) (Ok 0) (after_one (place sought xs))
