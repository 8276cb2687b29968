-- The entries of a group by their indexes, as cells.
use Rattle.std.specs.Prelude.{◌≡◌, ◌≤◌, ◌<◌, ℕ, List, map, Option, Some, None, IsSome}
use Rattle.std.specs.BTreeMap.{BTreeMap, get}
use Rattle.std.specs.Ordering.{nat_cmp}
use Rattle.raft_log_records.specs.declared.file_id.FileBlockHandle.{FileBlockHandle}
use Rattle.raft_log_records.specs.declared.item.EntryIndex.{EntryIndex}
use Rattle.raft_log_records.specs.Places.{indexed}

-- the entry with this index
abbrev pub entry_of : BTreeMap ℕ EntryIndex → ℕ → Option EntryIndex
entry_of entries index = get nat_cmp entries index

-- an entry, once its block stands in a file
abbrev pub placed_in : FileBlockHandle → EntryIndex → EntryIndex
placed_in handle e = record { index = e.index; entries = Some handle; entry_offset = e.entry_offset; entry_len = e.entry_len }

-- entries with their indexes, once their block stands in a file
abbrev pub placed_pairs : FileBlockHandle → List EntryIndex → List (ℕ × EntryIndex)
placed_pairs handle es = map (λ e. (e.0, placed_in handle e.1)) (indexed es)

abbrev pub or_else : {E : Type 0} → Option E → Option E → Option E
or_else None other = other
or_else (Some x) other = Some x

-- ---- the ends of the entries

-- the least index of an entry, or none where there is no entry
abbrev pub IsFirst : {E : Type 0} → (ℕ → Option E) → Option ℕ → Type 0
IsFirst entry None = (i : ℕ) → entry i ≡ None
IsFirst entry (Some first) = IsSome (entry first) × ((i : ℕ) → IsSome (entry i) → first ≤ i)

-- the greatest index of an entry, or none where there is no entry
abbrev pub IsLast : {E : Type 0} → (ℕ → Option E) → Option ℕ → Type 0
IsLast entry None = (i : ℕ) → entry i ≡ None
IsLast entry (Some last) = IsSome (entry last) × ((i : ℕ) → IsSome (entry i) → i ≤ last)

abbrev pub HasFrom : {E : Type 0} → (ℕ → Option E) → ℕ → Type 0
HasFrom entry first = (i : ℕ) × (first ≤ i) × IsSome (entry i)

abbrev pub NoneFrom : {E : Type 0} → (ℕ → Option E) → ℕ → Type 0
NoneFrom entry first = (i : ℕ) → first ≤ i → entry i ≡ None

-- the least index of an entry from an index on, or none where no entry is there from it on
abbrev pub IsNext : {E : Type 0} → (ℕ → Option E) → ℕ → Option ℕ → Type 0
IsNext entry from None = NoneFrom entry from
IsNext entry from (Some index) = (from ≤ index) × IsSome (entry index) × ((i : ℕ) → from ≤ i → i < index → entry i ≡ None)

abbrev pub HasBefore : {E : Type 0} → (ℕ → Option E) → ℕ → Type 0
HasBefore entry limit = (i : ℕ) × (i < limit) × IsSome (entry i)

abbrev pub NoneBefore : {E : Type 0} → (ℕ → Option E) → ℕ → Type 0
NoneBefore entry limit = (i : ℕ) → i < limit → entry i ≡ None
