-- Memberships: their one spelling, and how it is read.
use Rattle.std.specs.Prelude.{ℕ, ◌<◌, ◌≤◌, ◌^◌, nat_lt, Bool, true, List, [], ◌∷◌, ◌++◌, length, Option, Some, None}
use Rattle.std.specs.List.{flat_map}
use Rattle.std.specs.Str.{IsUtf8, is_utf8}
use Rattle.std.specs.Int.{w32, w64, to_be_bytes}
use Rattle.raft_group_step.specs.Limits.{voter_group_limit, voter_limit, node_limit}
use Rattle.raft_group_step.specs.Values.{Membership}
use Rattle.raft_wire.specs.declared.error.FrameFault.TheVariants as fault
use Rattle.raft_wire.specs.Reader.{Reader, ◌>>=◌, both, made, tested, number_at, byte_at, piece_at, counted_at}

-- ---- lists in which each value depends on what the one before it leaves

-- each has this property, given what the one before leaves
abbrev pub Chained : {A : Type 0} → (Option ℕ → A → Type 0) → (A → Option ℕ) → Option ℕ → List A → Type 0
Chained Is left last [] = Unit {0}
Chained Is left last (x ∷ xs) = Is last x × Chained Is left (left x) xs

-- a count, and the values one behind the other
abbrev pub spelled_list : {A : Type 0} → (A → List ℕ) → List A → List ℕ
spelled_list spelled xs = to_be_bytes w32 (length xs) ++ flat_map spelled xs

-- ---- ids, rising

abbrev pub is_above : Option ℕ → ℕ → Bool
is_above None id = true
is_above (Some last) id = nat_lt last id

abbrev pub IsAbove : Option ℕ → ℕ → Type 0
IsAbove None id = Unit {0}
IsAbove (Some last) id = last < id

pub record FitsId (last : Option ℕ) (id : ℕ) : Type 0 where
  pub rising : IsAbove last id
  pub number : id < 2 ^ 64

abbrev pub spelled_id : ℕ → List ℕ
spelled_id id = to_be_bytes w64 id

unfoldable pub id_above : Option ℕ → Reader ℕ
id_above last = tested fault.NotRising (is_above last) (number_at w64)

-- what an id leaves for the next
abbrev pub that_id : ℕ → Option ℕ
that_id id = Some id

-- ---- voter groups: ids, rising

abbrev pub spelled_ids : List ℕ → List ℕ
spelled_ids ids = spelled_list spelled_id ids

abbrev pub FitsIds : List ℕ → Type 0
FitsIds ids = (length ids ≤ voter_limit) × Chained FitsId that_id None ids

unfoldable pub ids_at : Reader (List ℕ)
ids_at = counted_at id_above that_id voter_limit

-- a group leaves nothing for the next
abbrev pub nothing_left : List ℕ → Option ℕ
nothing_left ids = None

-- ---- nodes, by rising id: an address has one byte of length and is text

abbrev pub spelled_address : List ℕ → List ℕ
spelled_address address = length address ∷ address

pub record FitsAddress (address : List ℕ) : Type 0 where
  pub length : length address < 256
  pub text : IsUtf8 address

unfoldable pub address_at : Reader (List ℕ)
address_at bytes = do
  n ← byte_at bytes
  tested fault.NotUtf8 is_utf8 (piece_at n.0) n.1

abbrev pub spelled_node : ℕ × List ℕ → List ℕ
spelled_node node = to_be_bytes w64 node.0 ++ spelled_address node.1

abbrev pub FitsNode : Option ℕ → ℕ × List ℕ → Type 0
FitsNode last node = FitsId last node.0 × FitsAddress node.1

unfoldable pub node_above : Option ℕ → Reader (ℕ × List ℕ)
node_above last = both (id_above last) address_at

abbrev pub that_node : ℕ × List ℕ → Option ℕ
that_node node = Some node.0

-- ---- memberships: voter groups and nodes

abbrev pub spelled_membership : Membership → List ℕ
spelled_membership m = spelled_list spelled_ids m.configs ++ spelled_list spelled_node m.nodes

pub record FitsMembership (m : Membership) : Type 0 where
  pub group_count : length m.configs ≤ voter_group_limit
  pub groups : Chained (λ _ ids. FitsIds ids) nothing_left None m.configs
  pub node_count : length m.nodes ≤ node_limit
  pub nodes : Chained FitsNode that_node None m.nodes

abbrev pub membership_of : List (List ℕ) × List (ℕ × List ℕ) → Membership
membership_of x = record { configs = x.0; nodes = x.1 }

unfoldable pub membership_at : Reader Membership
membership_at =
    made membership_of
    (both (counted_at (λ _. ids_at) nothing_left voter_group_limit) (counted_at node_above that_node node_limit))
