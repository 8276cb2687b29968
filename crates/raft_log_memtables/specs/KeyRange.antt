-- The bounds of a range of keys, as the program has them.
use Rattle.std.specs.Prelude.{◌≡◌, List, Bool, false, Option, Some, None, Vec, ℕ}
use Rattle.std.specs.declared.alloc.Global.{Global}
use Rattle.std.specs.declared.ops.Bound.{Bound}
use Rattle.std.specs.declared.ops.Bound.TheVariants.{Included, Excluded, Unbounded}
use Rattle.std.specs.Ordering.{nat_cmp, is_gt}
use Rattle.std.specs.Cmp.Lexicographic.{slice_cmp}

abbrev pub IsStart : Bound (Vec ℕ Global) → Option (List ℕ) → Type 0
IsStart (Included key) (Some start) = key.items ≡ start
IsStart Unbounded None = Unit {0}
IsStart (Included key) None = ⊥
IsStart (Excluded key) start = ⊥
IsStart Unbounded (Some start) = ⊥

abbrev pub IsEnd : Bound (Vec ℕ Global) → Option (List ℕ) → Type 0
IsEnd (Excluded key) (Some end) = key.items ≡ end
IsEnd Unbounded None = Unit {0}
IsEnd (Excluded key) None = ⊥
IsEnd (Included key) end = ⊥
IsEnd Unbounded (Some end) = ⊥

-- the start comes after the end
abbrev pub is_backwards : Option (List ℕ) → Option (List ℕ) → Bool
is_backwards (Some start) (Some end) = is_gt (slice_cmp nat_cmp start end)
is_backwards None end = false
is_backwards (Some start) None = false

-- a key and its value, as a map has them
abbrev pub shown : Vec ℕ Global × Vec ℕ Global → List ℕ × List ℕ
shown e = (e.0.items, e.1.items)
