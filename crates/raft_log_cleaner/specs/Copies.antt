-- Entries that are copied.
use Rattle.std.specs.Prelude.{◌≡◌, ◌+◌, ◌<◌, ◌≤◌, ℕ, List, length, slice_get, Option, Some, IsSome}
use Rattle.raft_log_records.specs.declared.item.EntryIndex.{EntryIndex}

-- These are the bytes of entries from an index on, one at least. They end before another index, or before an entry that is there
pub record AreCopies (read : EntryIndex → List ℕ) (entry : ℕ → Option EntryIndex) (begin end : ℕ) (parts : List (List ℕ)) : Type 0 where
  pub some : 0 < length parts
  pub short : begin + length parts ≤ end
  pub each : (i : ℕ) → i < length parts → (e : EntryIndex) × (entry (begin + i) ≡ Some e) × (slice_get parts i ≡ Some (read e))
  pub next : begin + length parts < end → IsSome (entry (begin + length parts))
