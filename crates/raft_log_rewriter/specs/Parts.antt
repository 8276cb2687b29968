-- What was written of groups so far: whole groups, and a front of the one that is being written.
use Rattle.std.specs.Prelude.{◌≡◌, ◌≤◌, ◌<◌, ◌+◌, ℕ, true, List, [], ◌∷◌, ◌++◌, length, IsSome, None, Option, Some}
use Rattle.raft_log_file.specs.Laws.{Batch}
use Rattle.raft_log_records.specs.Item.Change.{clean, compact, mark}
use Rattle.raft_log_records.specs.declared.item.AtomicGroupStatus.TheVariants.{Begin, Middle}
use Rattle.raft_log_memtables.specs.Content.{Content, GroupContent, entry_at}
use Rattle.raft_log_memtables.specs.Laws.{all_of}
use Rattle.raft_log_memtables.specs.Replay.{mark_of}
use Rattle.raft_log_covers.specs.Cells.{batch_sets}
use Rattle.raft_log_covers.specs.Cells.Cell.{presence}
use Rattle.raft_log_covers.specs.Joined.{AreChunks, all_entries, chunk_changes, without_marks}
use Rattle.raft_log_covers.specs.Kept.{Traces}
use Rattle.raft_log_covers.specs.Marks.{is_in, of_group}
use Rattle.raft_log_covers.specs.Trace.{Trace}
use Rattle.raft_log_covers.specs.Written.{Written, all_records}
use Rattle.raft_log_covers.specs.Written.Written.{alone, grouped, unended}
use Rattle.raft_log_purge.specs.Anew.{AreAnew, AreGroupsAnew, HasPairs, names_of, stored}
use Rattle.raft_log_cleaner.specs.Written.{written_at}

-- ---- records

-- these items have entries of the content, which stand in no append file
pub record AreStored (content : Content (List ℕ)) (traces : Traces) (items : Batch) : Type 0 where
  pub bytes : (group i : ℕ) (v : List ℕ) → written_at items group i ≡ Some v → (content group).entry i ≡ Some v
  pub file : (group i : ℕ) → IsSome (written_at items group i) → (traces group).entry_file i ≡ None

-- with these items as one record more, that is what was written anew
pub record MayFollow (content : Content (List ℕ)) (traces : Traces) (ws : List (Written (List ℕ))) (items : Batch) (more : List (Written (List ℕ))) : Type 0 where
  pub records : all_records ws ++ items ∷ [] ≡ all_records more
  pub anew : AreAnew content traces more
  pub stored : AreStored content traces items

-- ---- an atomic group that is being written

pub data Open : Type 0 where
  closed : Open
  -- its first record, and those behind it
  begun : ℕ → Batch → List Batch → Open

abbrev pub unended_of : Open → List (Written (List ℕ))
unended_of closed = []
unended_of (begun id first middles) = unended id first middles ∷ []

abbrev pub items_of_open : Open → Batch
items_of_open closed = []
items_of_open (begun id first middles) = first ++ all_of middles

-- it has this id
abbrev pub HasId : Open → Option ℕ → Type 0
HasId closed None = Unit {0}
HasId closed (Some id) = ⊥
HasId (begun id first middles) None = ⊥
HasId (begun id first middles) (Some other) = id ≡ other

abbrev pub IsEnded : Written (List ℕ) → Type 0
IsEnded (alone items) = Unit {0}
IsEnded (grouped id first middles last) = Unit {0}
IsEnded (unended id first middles) = ⊥

abbrev pub AreEnded : List (Written (List ℕ)) → Type 0
AreEnded [] = Unit {0}
AreEnded (w ∷ ws) = IsEnded w × AreEnded ws

-- ---- a group that is being written

pub data Stage : Type 0 where
  -- no group is
  between : Stage
  -- a group's entries from an index on, up to before another one
  entries_to : ℕ → ℕ → ℕ → Stage
  -- these entries, and the keys with these names that are there
  keys_to : ℕ → ℕ → ℕ → List (List ℕ) → Stage

pub record HasEntries (g : GroupContent (List ℕ)) (group first stop : ℕ) (part : Batch) : Type 0 where
  pub limit : ℕ
  pub chunks : List (List (ℕ × List ℕ))
  pub there : g.there ≡ true
  pub written : part ≡ of_group group (clean ∷ (compact limit ∷ chunk_changes chunks))
  pub chunked : AreChunks first chunks
  pub until : first + length (all_entries chunks) ≡ stop
  pub same : (i : ℕ) → first ≤ i → i < stop → entry_at (all_entries chunks) i ≡ g.entry i

pub record HasKeys (g : GroupContent (List ℕ)) (group first stop : ℕ) (names : List (List ℕ)) (part : Batch) : Type 0 where
  pub limit : ℕ
  pub chunks : List (List (ℕ × List ℕ))
  pub pairs : List (List ℕ × List ℕ)
  pub there : g.there ≡ true
  pub written : part ≡ of_group group (clean ∷ stored limit chunks pairs)
  pub chunked : AreChunks first chunks
  pub until : first + length (all_entries chunks) ≡ stop
  pub same : (i : ℕ) → first ≤ i → i < stop → entry_at (all_entries chunks) i ≡ g.entry i
  pub values : HasPairs g pairs
  pub named : (k : List ℕ) → is_in k names ≡ true → IsSome (g.value k) → is_in k (names_of pairs) ≡ true

abbrev pub IsPart : Content (List ℕ) → Stage → Batch → Type 0
IsPart content between part = part ≡ []
IsPart content (entries_to group first stop) part = HasEntries (content group) group first stop part
IsPart content (keys_to group first stop names) part = HasKeys (content group) group first stop names part

-- ---- all groups

-- In the records that were written, in those of the atomic group that is being written, and in these items of the batch there are
-- whole groups, and behind them a part of one.
pub record HasParts (content : Content (List ℕ)) (traces : Traces) (ws : List (Written (List ℕ))) (open_group : Open) (items part : Batch) : Type 0 where
  pub ended : AreEnded ws
  pub unmarked : mark_of items ≡ None
  pub parts : List Batch
  pub groups : AreGroupsAnew content traces parts
  pub holds : without_marks (items_of_open open_group ++ items) ≡ all_of parts ++ part

-- these items have the group, and all of its entries that stand in no append file
pub record IsAmong (g : GroupContent (List ℕ)) (t : Trace) (group : ℕ) (items : Batch) : Type 0 where
  pub named : batch_sets items group presence ≡ true
  pub entries : (i : ℕ) → IsSome (g.entry i) → t.entry_file i ≡ None → IsSome (written_at items group i)

-- so they have each of these groups that is there
abbrev pub AreAmong : Content (List ℕ) → Traces → Batch → List ℕ → Type 0
AreAmong content traces items [] = Unit {0}
AreAmong content traces items (group ∷ groups) = ((content group).there ≡ true → IsAmong (content group) (traces group) group items) × AreAmong content traces items groups

-- ---- what is to be written of a group

-- The entries from an index on, up to before another one, are all that stand in no append file.
pub record IsStoredRange (t : Trace) (first stop : ℕ) : Type 0 where
  pub order : first ≤ stop
  pub all : (i : ℕ) → t.low ≤ i → i < t.next → t.entry_file i ≡ None → (first ≤ i) × (i < stop)
  pub only : (i : ℕ) → first ≤ i → i < stop → t.entry_file i ≡ None

-- among these names are those of all keys that stand in no append file
abbrev pub AreStoredNames : Trace → (List ℕ → Option (List ℕ)) → List (List ℕ) → Type 0
AreStoredNames t value names = (k : List ℕ) → IsSome (value k) → t.key_file k ≡ None → is_in k names ≡ true

-- ---- marks of an atomic group

-- the items, with the mark of a record that isn't the last one
abbrev pub IsMarkedPart : Option ℕ → Batch → Option ℕ → Batch → Type 0
IsMarkedPart None items None more = ⊥
IsMarkedPart None items (Some id) more = more ≡ items ++ record { group = 0; change = mark id Begin } ∷ []
IsMarkedPart (Some id) items None more = ⊥
IsMarkedPart (Some id) items (Some other) more = (other ≡ id) × (more ≡ items ++ record { group = 0; change = mark id Middle } ∷ [])
