-- The keys of a group from one key on, up to another one, with their values.
use Rattle.std.specs.Prelude.{◌≡◌, ◌&&◌, List, reverse, Bool, true, if◌then◌else◌, Option, Some, None, bytes_eq, ℕ}
use Rattle.std.specs.List.Sorted.{IsStrictlySortedBy}
use Rattle.std.specs.Map.{lookup, keys_of}
use Rattle.std.specs.Ordering.{nat_cmp, is_le, is_gt}
use Rattle.std.specs.Cmp.Lexicographic.{slice_cmp}

-- the key is the first one or comes after it, if there is a first one
abbrev pub is_from : Option (List ℕ) → List ℕ → Bool
is_from None key = true
is_from (Some start) key = is_le (slice_cmp nat_cmp start key)

-- the end comes after the key, if there is an end
abbrev pub is_before : Option (List ℕ) → List ℕ → Bool
is_before None key = true
is_before (Some end) key = is_gt (slice_cmp nat_cmp end key)

abbrev pub is_between : Option (List ℕ) → Option (List ℕ) → List ℕ → Bool
is_between start end key = is_from start key && is_before end key

-- these are the keys that lie there, rising, each with its value, and no others
pub record AreKeysBetween (value : List ℕ → Option (List ℕ)) (start end : Option (List ℕ)) (pairs : List (List ℕ × List ℕ)) : Type 0 where
  pub rising : IsStrictlySortedBy (slice_cmp nat_cmp) (keys_of pairs)
  pub exactly : (key : List ℕ) → lookup (bytes_eq key) pairs ≡ (if is_between start end key then value key else None)

-- the same, falling where it is asked for
abbrev pub Scans : (List ℕ → Option (List ℕ)) → Option (List ℕ) → Option (List ℕ) → Bool → List (List ℕ × List ℕ) → Type 0
Scans value start end falling found = AreKeysBetween value start end (if falling then reverse found else found)
