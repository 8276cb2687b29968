-- The map: values by keys, its one spelling, and the map that bytes spell.
use Rattle.std.specs.Prelude.{◌≡◌, ℕ, ◌≤◌, Bool, false, List, ◌++◌, map, Option, Some, None, Result, Ok, Err, Vec, if◌then◌else◌}
use Rattle.std.specs.declared.alloc.Global.{Global}
use Rattle.std.specs.FinMap as finite
use Rattle.std.specs.List.{All}
use Rattle.std.specs.BTreeMap.{BTreeMap, IsOrdered, btree_map_len, keys, values}
use Rattle.std.specs.declared.cmp.Ordering.{Ordering}
use Rattle.std.specs.Cmp.Lexicographic.{slice_cmp}
use Rattle.std.specs.Ordering.{nat_cmp}
use Rattle.raft_wire.specs.declared.error.FrameFault.{FrameFault}
use Rattle.raft_wire.specs.Reader.{Reader, both, counted_at, all_of}
use Rattle.raft_wire.specs.Memberships.{spelled_list}
use Rattle.raft_wire.specs.Entries.{spelled_text}
use Rattle.raft_wire.specs.Kv.{IsKey, IsValue, key_at, value_at}

-- keys are ordered byte by byte
abbrev pub in_order : List ℕ → List ℕ → Ordering
in_order = slice_cmp nat_cmp

-- a partial map from keys to values
abbrev pub Map : Type 0
Map = finite.FinMap in_order (List ℕ)

abbrev pub Pair : Type 0
Pair = List ℕ × List ℕ

-- the most keys of a map
abbrev pub key_count_limit : ℕ
key_count_limit = 4096

-- ---- spelling: a count, and the pairs by rising key

abbrev pub spelled_pair : Pair → List ℕ
spelled_pair pair = spelled_text pair.0 ++ spelled_text pair.1

abbrev pub spelled_map : Map → List ℕ
spelled_map m = spelled_list spelled_pair (finite.entries m)

unfoldable pub pair_at : Reader Pair
pair_at = both key_at value_at

-- a pair leaves nothing for the next
abbrev pub nothing_left : Pair → Option ℕ
nothing_left pair = None

unfoldable pub pairs_at : Reader (List Pair)
pairs_at = counted_at (λ _. pair_at) nothing_left key_count_limit

-- whether the keys of pairs strictly rise
abbrev pub are_rising : List Pair → Bool
are_rising pairs = finite.is_sorted in_order pairs

abbrev pub is_map_read : Result (List Pair) FrameFault → Bool
is_map_read (Ok pairs) = are_rising pairs
is_map_read (Err f) = false

abbrev pub map_read : Result (List Pair) FrameFault → Map
map_read (Ok pairs) = if are_rising pairs then finite.from_entries pairs else finite.empty
map_read (Err f) = finite.empty

-- whether bytes spell a map
abbrev pub is_map : List ℕ → Bool
is_map bytes = is_map_read (all_of pairs_at bytes)

-- the map that bytes spell, and the empty one where they spell none
abbrev pub map_in : List ℕ → Map
map_in bytes = map_read (all_of pairs_at bytes)

-- bytes that spell a map, and else the empty one's
abbrev pub restored : List ℕ → List ℕ
restored bytes = if is_map bytes then bytes else spelled_map finite.empty

-- no more keys than a map may have, and each key and value within its limits
pub record IsWithin (m : Map) : Type 0 where
  pub count : finite.len m ≤ key_count_limit
  pub each : (key value : List ℕ) → finite.get m key ≡ Some value → IsKey key × IsValue value

-- ---- the machine's tree

abbrev pub Tree : Type 0
Tree = BTreeMap (Vec ℕ Global) (Vec ℕ Global)

abbrev pub tree_order : Vec ℕ Global → Vec ℕ Global → Ordering
tree_order x y = in_order x.items y.items

abbrev pub plain : Vec ℕ Global × Vec ℕ Global → Pair
plain pair = (pair.0.items, pair.1.items)

abbrev pub map_of : Tree → Map
map_of t = finite.from_entries (map plain t.entries)

abbrev pub KeyFits : Vec ℕ Global → Type 0
KeyFits key = IsKey key.items

abbrev pub ValueFits : Vec ℕ Global → Type 0
ValueFits value = IsValue value.items

-- no more keys than a map may have, and each key and value within its limits
pub record IsTreeWithin (t : Tree) : Type 0 where
  pub ordered : IsOrdered tree_order t
  pub count : btree_map_len t ≤ key_count_limit
  pub keys : All KeyFits (keys t)
  pub values : All ValueFits (values t)
