-- The values beside ids.
use Rattle.std.specs.declared.cmp.Ordering.{Ordering}
use Rattle.std.specs.List.{find}
use Rattle.std.specs.Option.{option_map}
use Rattle.std.specs.Ordering.{is_lt}
use Rattle.raft_quorums.specs.Nodes.{has_id}
use Rattle.std.specs.Prelude.{ℕ, zero, suc, Bool, true, false, not, ◌&&◌, cond, Option, Some, None, List, [], ◌∷◌}

-- the list with this value beside the id at the index
abbrev pub with_value_at : {K V : Type 0} → List (K × V) → ℕ → V → List (K × V)
with_value_at [] at v = []
with_value_at (x ∷ xs) zero v = (x.0, v) ∷ xs
with_value_at (x ∷ xs) (suc at) v = x ∷ with_value_at xs at v

module _ {K V : Type 0} (eq : K → K → Bool) where
  -- the first entry with the id
  abbrev pub entry_at : List (K × V) → K → Option (K × V)
  entry_at xs id = find (λ (x : K × V). eq x.0 id) xs

  -- the value beside the id
  abbrev pub value_at : List (K × V) → K → Option V
  value_at xs id = option_map (λ (x : K × V). x.1) (entry_at xs id)

  -- the list with this value beside the id
  abbrev pub with_value : List (K × V) → K → V → List (K × V)
  with_value [] id v = []
  with_value (x ∷ xs) id v = cond (eq x.0 id) ((x.0, v) ∷ xs) (x ∷ with_value xs id v)

-- there is a value, and the new one is above it
abbrev pub rises_above : {V P : Type 0} → (P → P → Ordering) → (V → P) → Option V → V → Bool
rises_above cmp compared None value = false
rises_above cmp compared (Some before) value = is_lt (cmp (compared before) (compared value))

-- no id is there twice
abbrev pub are_distinct : {K : Type 0} → (K → K → Bool) → List K → Bool
are_distinct eq [] = true
are_distinct eq (x ∷ xs) = not (has_id eq xs x) && are_distinct eq xs
