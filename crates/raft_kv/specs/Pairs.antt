-- The pairs of the code, and the tree that is made of them.
use Rattle.std.specs.Prelude.{◌≡◌, ℕ, Bool, true, false, List, [], ◌∷◌, map, Option, Some, None, Vec}
use Rattle.std.specs.declared.alloc.Global.{Global}
use Rattle.std.specs.BTreeMap.{IsOrdered}
use Rattle.std.specs.Ordering.{is_lt}
use Rattle.raft_kv.specs.declared.pairs.Pair.{Pair as APair}
use Rattle.raft_kv.specs.Map.{Pair, Tree, are_rising, in_order, plain, tree_order}

abbrev pub plain_pair : APair → Pair
plain_pair pair = (pair.key.items, pair.value.items)

-- whether the key is below the first of these
abbrev pub is_before : List ℕ → List (Vec ℕ Global × Vec ℕ Global) → Bool
is_before key [] = true
is_before key (e ∷ es) = is_lt (in_order key e.0.items)

-- the tree of these pairs, if they rise
abbrev pub IsTreeOf : List Pair → Option Tree → Type 0
IsTreeOf pairs None = are_rising pairs ≡ false
IsTreeOf pairs (Some t) = IsOrdered tree_order t × (map plain t.entries ≡ pairs)
