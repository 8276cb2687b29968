-- Batches of a file that were written since its last sync: a crash leaves a front of them.
use Rattle.std.specs.Prelude.{◌≡◌, ℕ, ◌+◌, ◌<◌, ◌≤◌, List, [], ◌∷◌, ◌++◌, length, take, Option, Ok, MatchResult}
use Rattle.std.specs.List.{AllByRecursion}
use Rattle.raft_log_records.specs.declared.item.EntryIndex.{EntryIndex}
use Rattle.raft_log_records.specs.Item.{Item}
use Rattle.raft_log_records.specs.Reading.{record_at}
use Rattle.raft_log_records.specs.declared.file_id.FileId.{FileId}
use Rattle.raft_log_records.specs.Signature.{signature_of}
use Rattle.raft_log_records.specs.Spelling.{AreItems, spell_record}
use Rattle.raft_log_disk.specs.declared.format.LogFileFormat.{LogFileFormat}
use Rattle.raft_log_disk.specs.Disk.{FileState, IsIn, after_write, after_sync, after_allocate, put, renamed}
use Rattle.raft_log_disk.specs.Format.{IsSpellable, spelled_header}
use Rattle.raft_log_disk.specs.Image.{IsOutside, IsFileImage}
use Rattle.raft_log_disk.specs.Chance.{Stands, IsGenuine}
use Rattle.raft_log_file.specs.Reading.{contents, file_reading}
use Rattle.raft_log_file.specs.Laws.{Batch, AreBatches, file_text}

-- where the records of batches stand, the first of them at this place
abbrev pub places : Option ℕ → ℕ → List Batch → List (ℕ × List ℕ)
places signature at [] = []
places signature at (u ∷ us) = (at, spell_record signature u) ∷ places signature (at + length (spell_record signature u)) us

-- bytes that are a record, as one reads it at the front of more
pub record IsRecord (signature : Option ℕ) (bytes : List ℕ) : Type 0 where
  pub read : List (Item EntryIndex) × List ℕ × ℕ
  pub rest : List ℕ
  pub is : record_at signature (bytes ++ rest) ≡ Ok read
  pub len : length bytes ≡ read.2

-- The file begins with the batches ks, all of them on the disk. The writes behind them are the records of the batches us,
-- one behind the other; what else stands there, as in a recycled file or where room was made, is anything but a record that
-- was written just there since the file got its name. Records follow one another without padding
pub record IsUnsynced (id : FileId) (format : LogFileFormat) (ks us : List Batch) (f : FileState) : Type 0 where
  pub spellable : IsSpellable format
  pub plain : format.alignment ≡ 0
  pub synced : AreBatches ks
  pub others : AreBatches us
  pub kept : take (length (file_text id format ks)) f.kept ≡ file_text id format ks
  pub least : length (file_text id format ks) ≤ f.least
  pub outside : (i : ℕ) → i < length (file_text id format ks) → IsOutside i f.changed
  pub older : List (ℕ × List ℕ)
  pub later : f.later ≡ older ++ places (signature_of format.version id.seq) (length (file_text id format ks)) us
  pub before : AllByRecursion (λ s. s.0 < length (file_text id format ks)) older
  pub earlier : (at : ℕ) (bytes : List ℕ) → length (file_text id format ks) ≤ at → IsRecord (signature_of format.version id.seq) bytes → IsIn (at, bytes) f.earlier
      → Stands f.kept at bytes → ⊥

-- the bytes of a file read as these batches
abbrev pub ReadsAs : FileId → List Batch → List ℕ → Type 0
ReadsAs id ks bytes = MatchResult (file_reading id bytes) (λ r. contents r.batches ≡ ks) (λ _. ⊥)

-- whatever a crash leaves of such a file reads as the synced batches and a front of the others, unless bytes that nobody wrote pass as records
abbrev pub UnsyncedBatchesAreAFront : Type 0
UnsyncedBatchesAreAFront =
    (id : FileId) (format : LogFileFormat) (ks us : List Batch) (f : FileState) (bytes : List ℕ) → IsUnsynced id format ks us f → IsFileImage f bytes → IsGenuine id f bytes
    → (k : ℕ) × ReadsAs id (ks ++ take k us) bytes

-- one more record at their end is one more unsynced batch, whatever of it a read sees
abbrev pub UnsyncedBatchesGrow : Type 0
UnsyncedBatchesGrow =
    (id : FileId) (format : LogFileFormat) (ks us : List Batch) (p : Batch) (f : FileState) (at : ℕ) (seen : List ℕ) → IsUnsynced id format ks us f → AreItems p
    → at ≡ length (file_text id format (ks ++ us)) → IsUnsynced id format ks (us ++ p ∷ []) (after_write f at (spell_record (signature_of format.version id.seq) p) seen)

-- room behind them changes nothing, whatever of it a read sees
abbrev pub RoomStaysUnread : Type 0
RoomStaysUnread =
    (id : FileId) (format : LogFileFormat) (ks us : List Batch) (f : FileState) (at len : ℕ) (seen : List ℕ) → IsUnsynced id format ks us f
    → length (file_text id format ks) ≤ at → IsUnsynced id format ks us (after_allocate f at len seen)

-- a file of batches and nothing else that is synced has none unsynced
abbrev pub SyncedBatchesBegin : Type 0
SyncedBatchesBegin =
    (id : FileId) (format : LogFileFormat) (ks : List Batch) (f : FileState) → IsSpellable format → format.alignment ≡ 0 → AreBatches ks
    → f.bytes ≡ file_text id format ks → IsUnsynced id format ks [] (after_sync f)

-- a recycled file, whatever it brought, has no batches once its header is written and synced
abbrev pub RecycledFilesBegin : Type 0
RecycledFilesBegin =
    (id : FileId) (format : LogFileFormat) (f : FileState) → IsSpellable format → format.alignment ≡ 0
    → IsUnsynced id format [] [] (after_sync (after_write (renamed f) 0 (spelled_header format) (put f.bytes 0 (spelled_header format))))
