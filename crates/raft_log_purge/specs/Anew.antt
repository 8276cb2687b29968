-- The rewrite queue written anew: behind its old records each group that is there, as far as it stands in this queue. Then the old
-- records may go, the first ones first.
use Rattle.std.specs.Prelude.{◌≡◌, ◌≤◌, ◌<◌, ◌+◌, ℕ, true, List, [], ◌∷◌, ◌++◌, length, IsSome, Option, Some, None}
use Rattle.raft_log_records.specs.declared.item.AtomicGroupStatus.{AtomicGroupStatus}
use Rattle.raft_log_records.specs.declared.item.AtomicGroupStatus.TheVariants.{Begin, Middle, End}
use Rattle.raft_log_records.specs.Item.{Change, Item}
use Rattle.raft_log_records.specs.Item.Change.{clean, compact, put}
use Rattle.raft_log_memtables.specs.Content.{GroupContent, Content, no_group, entry_at}
use Rattle.raft_log_memtables.specs.Replay.{mark_of}
use Rattle.raft_log_covers.specs.Cells.{batches_set}
use Rattle.raft_log_covers.specs.Cells.Cell.{presence}
use Rattle.raft_log_covers.specs.Joined.{Holds, AreChunks, all_entries, chunk_changes}
use Rattle.raft_log_covers.specs.Kept.{Traces, HasWhole}
use Rattle.raft_log_covers.specs.Marks.{of_group, after_changes, is_in}
use Rattle.raft_log_covers.specs.Trace.{Trace}
use Rattle.raft_log_covers.specs.Written.{Written, IsWritten, all_batches}

-- ---- a group

-- A Clean, behind which nothing counts of what older records say of the group. Then changes that alone make of it what stands in
-- the rewrite queue.
pub record IsGroupAnew {E : Type 0} (content : Content E) (traces : Traces) (part : List (Item E)) : Type 0 where
  pub group : ℕ
  pub changes : List (Change E)
  pub written : part ≡ of_group group (clean ∷ changes)
  pub unmarked : mark_of (of_group group changes) ≡ None
  pub whole : HasWhole (traces group) (content group) (after_changes changes no_group)

abbrev pub puts : {E : Type 0} → List (List ℕ × List ℕ) → List (Change E)
puts [] = []
puts (pair ∷ pairs) = put pair.0 pair.1 ∷ puts pairs

abbrev pub names_of : List (List ℕ × List ℕ) → List (List ℕ)
names_of [] = []
names_of (pair ∷ pairs) = pair.0 ∷ names_of pairs

-- the group has each of these values
abbrev pub HasPairs : {E : Type 0} → GroupContent E → List (List ℕ × List ℕ) → Type 0
HasPairs g [] = Unit {0}
HasPairs g (pair ∷ pairs) = (g.value pair.0 ≡ Some pair.1) × HasPairs g pairs

-- Such changes: a Compact, so that the group is there, then entries in chunks, then keys.
abbrev pub stored : {E : Type 0} → ℕ → List (List (ℕ × E)) → List (List ℕ × List ℕ) → List (Change E)
stored limit chunks pairs = compact limit ∷ (chunk_changes chunks ++ puts pairs)

-- The group is there. The chunks have its entries from the first index up to before the other one, and the pairs have its values.
-- All is among them that the trace says stands in no append file.
pub record IsAllStored {E : Type 0} (t : Trace) (g : GroupContent E) (first stop : ℕ) (chunks : List (List (ℕ × E))) (pairs : List (List ℕ × List ℕ)) : Type 0 where
  pub there : g.there ≡ true
  pub chunked : AreChunks first chunks
  pub until : first + length (all_entries chunks) ≡ stop
  pub same : (i : ℕ) → first ≤ i → i < stop → entry_at (all_entries chunks) i ≡ g.entry i
  pub entries_too : (i : ℕ) → IsSome (g.entry i) → t.entry_file i ≡ None → (first ≤ i) × (i < stop)
  pub values : HasPairs g pairs
  pub keys_too : (k : List ℕ) → IsSome (g.value k) → t.key_file k ≡ None → is_in k (names_of pairs) ≡ true

-- ---- what is written one after the other

abbrev pub AreGroupsAnew : {E : Type 0} → Content E → Traces → List (List (Item E)) → Type 0
AreGroupsAnew content traces [] = Unit {0}
AreGroupsAnew content traces (part ∷ parts) = IsGroupAnew content traces part × AreGroupsAnew content traces parts

-- a record, or an atomic group of records, with groups that are written anew, each whole. One without its end has none
pub record IsAnew {E : Type 0} (content : Content E) (traces : Traces) (w : Written E) : Type 0 where
  pub written : IsWritten w
  pub parts : List (List (Item E))
  pub holds : Holds w parts
  pub groups : AreGroupsAnew content traces parts

abbrev pub AreAnew : {E : Type 0} → Content E → Traces → List (Written E) → Type 0
AreAnew content traces [] = Unit {0}
AreAnew content traces (w ∷ ws) = IsAnew content traces w × AreAnew content traces ws

-- a group is among those that were written
abbrev pub Names : {E : Type 0} → List (Written E) → ℕ → Type 0
Names ws group = batches_set (all_batches ws) group presence ≡ true

-- ---- records of atomic groups stand together

abbrev pub open_by : ℕ → AtomicGroupStatus → Option ℕ
open_by id Begin = Some id
open_by id Middle = Some id
open_by id End = None

-- the atomic group that a record leaves open
abbrev pub left_open : Option (ℕ × AtomicGroupStatus) → Option ℕ
left_open None = None
left_open (Some m) = open_by m.0 m.1

abbrev pub MayStandIn : Option ℕ → ℕ → AtomicGroupStatus → Type 0
MayStandIn begun id Begin = Unit {0}
MayStandIn begun id Middle = begun ≡ Some id
MayStandIn begun id End = begun ≡ Some id

-- what goes on with an atomic group, or ends it, stands right behind a record that leaves it open
abbrev pub MayStand : Option ℕ → Option (ℕ × AtomicGroupStatus) → Type 0
MayStand begun None = Unit {0}
MayStand begun (Some m) = MayStandIn begun m.0 m.1

abbrev pub StandBehind : {E : Type 0} → Option ℕ → List (List (Item E)) → Type 0
StandBehind begun [] = Unit {0}
StandBehind begun (items ∷ records) = MayStand begun (mark_of items) × StandBehind (left_open (mark_of items)) records

-- The records of each atomic group stand together. Of the first one records before these may be gone.
abbrev pub StandTogether : {E : Type 0} → List (List (Item E)) → Type 0
StandTogether [] = Unit {0}
StandTogether (items ∷ records) = StandBehind (left_open (mark_of items)) records
