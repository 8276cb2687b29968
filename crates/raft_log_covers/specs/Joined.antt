-- What is written as one record, or as one atomic group of records: several batches together, of one group or of several.
use Rattle.std.specs.Prelude.{◌≡◌, ◌⊎◌, ◌+◌, ◌<◌, ℕ, if◌then◌else◌, List, [], ◌∷◌, ◌++◌, length, take}
use Rattle.raft_log_records.specs.Item.{Change, Item}
use Rattle.raft_log_records.specs.Item.Change.{entries}
use Rattle.raft_log_records.specs.Batch.{FollowOn}
use Rattle.raft_log_memtables.specs.Content.{Content}
use Rattle.raft_log_memtables.specs.Laws.{all_of}
use Rattle.raft_log_memtables.specs.MemTable.{is_mark_of}
use Rattle.raft_log_memtables.specs.Replay.{content_of}
use Rattle.raft_log_covers.specs.Cells.{AreUnmarked}
use Rattle.raft_log_covers.specs.Queues.{Filed}
use Rattle.raft_log_covers.specs.Written.{Written, IsWritten, batch_of, records_of}
use Rattle.raft_log_covers.specs.Account.{Account}
use Rattle.raft_log_covers.specs.Marks.{of_group}
use Rattle.raft_log_covers.specs.Trace.{AreRun}
use Rattle.raft_log_covers.specs.Kept.{Traces, IsKept}

-- the items of a batch but for its atomic marks
abbrev pub without_marks : {E : Type 0} → List (Item E) → List (Item E)
without_marks [] = []
without_marks (item ∷ items) = if is_mark_of item.change then without_marks items else item ∷ without_marks items

-- the record, or the atomic group, holds these batches one after the other
abbrev pub Holds : {E : Type 0} → Written E → List (List (Item E)) → Type 0
Holds w parts = without_marks (batch_of w) ≡ all_of parts

-- ---- laws

-- Written together, batches without marks count as they do one by one.
abbrev pub PartsCount : Type 0 → Type 0
PartsCount E = (records parts : List (List (Item E))) (w : Written E) → IsWritten w → AreUnmarked parts → Holds w parts
    → content_of (records ++ records_of w) ≡ content_of (records ++ parts)

-- So what the invariant says of batches that are written one by one, it says of one record or of one atomic group with them.
abbrev pub PartsKeep : Type 0 → Type 0
PartsKeep E = (traces : Traces) (account : Account) (records parts : List (List (Item E))) (content : Content E) (bs : List (Filed E)) (w : Written E)
    → IsWritten w → AreUnmarked parts → Holds w parts → IsKept traces account (records ++ parts) content bs
    → IsKept traces account (records ++ records_of w) content bs

-- Whichever of its records a crash leaves, from the first one on, the invariant holds as before all of it or as after all of it.
abbrev pub FrontsKeep : Type 0 → Type 0
FrontsKeep E = (before after : Traces) (old new : Account) (records : List (List (Item E))) (content : Content E) (bs : List (Filed E)) (w : Written E)
    → IsWritten w → IsKept before old records content bs → IsKept after new (records ++ records_of w) content bs
    → (n : ℕ) → IsKept before old (records ++ take n (records_of w)) content bs ⊎ IsKept after new (records ++ take n (records_of w)) content bs

-- ---- entries in several chunks

-- each chunk begins where the one before it ends, and its entries follow one another
abbrev pub AreChunks : {E : Type 0} → ℕ → List (List (ℕ × E)) → Type 0
AreChunks first [] = Unit {0}
AreChunks first (es ∷ chunks) = (0 < length es) × FollowOn (λ e. e.0) first es × AreChunks (first + length es) chunks

abbrev pub all_entries : {E : Type 0} → List (List (ℕ × E)) → List (ℕ × E)
all_entries [] = []
all_entries (es ∷ chunks) = es ++ all_entries chunks

abbrev pub chunk_changes : {E : Type 0} → List (List (ℕ × E)) → List (Change E)
chunk_changes [] = []
chunk_changes (es ∷ chunks) = entries es ∷ chunk_changes chunks

-- Chunks of a list in one record or atomic group count as one item with all of the entries.
abbrev pub ChunksCount : Type 0 → Type 0
ChunksCount E = (records : List (List (Item E))) (group first : ℕ) (es : List (ℕ × E)) (chunks : List (List (ℕ × E))) → AreChunks first (es ∷ chunks)
    → content_of (records ++ of_group group (chunk_changes (es ∷ chunks)) ∷ []) ≡ content_of (records ++ of_group group (entries (all_entries (es ∷ chunks)) ∷ []) ∷ [])

-- Their entries follow one another.
abbrev pub ChunksAreRun : Type 0 → Type 0
ChunksAreRun E = (first : ℕ) (es : List (ℕ × E)) (chunks : List (List (ℕ × E))) → AreChunks first (es ∷ chunks) → AreRun (all_entries (es ∷ chunks))
