-- Whether the records of atomic groups stand together, told of one record after the other.
use Rattle.std.specs.Prelude.{◌≡◌, ◌↔◌, ℕ, IsTrue, List, [], ◌∷◌, map, Option, Some, None}
use Rattle.raft_log_records.specs.declared.item.AtomicGroupStatus.{AtomicGroupStatus}
use Rattle.raft_log_records.specs.Item.{Item}
use Rattle.raft_log_memtables.specs.Replay.{mark_of}
use Rattle.raft_log_marks.specs.Mapped.{items_map}
use Rattle.raft_log_purge.specs.Anew.{left_open, MayStand, StandTogether}
use Rattle.raft_log_purge.specs.declared.together.Together.{Together}

-- the atomic group that the last record leaves open, if there is a record
abbrev pub last_open : {E : Type 0} → Option (Option ℕ) → List (List (Item E)) → Option (Option ℕ)
last_open last [] = last
last_open last (items ∷ records) = last_open (Some (left_open (mark_of items))) records

-- the first record may be any
abbrev pub MayCome : Option (Option ℕ) → Option (ℕ × AtomicGroupStatus) → Type 0
MayCome None m = Unit {0}
MayCome (Some begun) m = MayStand begun m

-- what is told of these records
pub record Tells {E : Type 0} (t : Together) (records : List (List (Item E))) : Type 0 where
  pub so_far : IsTrue t.so_far ↔ StandTogether records
  pub last : t.last ≡ last_open None records

-- Entries may be seen otherwise.
abbrev pub MapsTogether : Type 0 → Type 0 → Type 0
MapsTogether E F = (f : E → F) (records : List (List (Item E))) → StandTogether (map (items_map f) records) ↔ StandTogether records
