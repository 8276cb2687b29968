-- Laws of one log file.
use Rattle.std.specs.Prelude.{◌≡◌, ℕ, List, ◌++◌, length, Option, MatchResult}
use Rattle.std.specs.List.{AllByRecursion, flat_map}
use Rattle.raft_log_records.specs.declared.file_id.FileId.{FileId}
use Rattle.raft_log_records.specs.Item.{Item}
use Rattle.raft_log_records.specs.Reading.{AreBytes}
use Rattle.raft_log_records.specs.Signature.{signature_of}
use Rattle.raft_log_records.specs.Spelling.{AreItems, spell_record}
use Rattle.raft_log_disk.specs.declared.format.LogFileFormat.{LogFileFormat}
use Rattle.raft_log_disk.specs.Disk.{FileState, after_sync}
use Rattle.raft_log_disk.specs.Format.{IsSpellable, spelled_header}
use Rattle.raft_log_disk.specs.Image.{IsStill, IsFileImage}
use Rattle.raft_log_file.specs.Reading.{Reading, contents, file_reading, read_from}

-- a batch: its items, with the bytes of their entries
abbrev pub Batch : Type 0
Batch = List (Item (List ℕ))

-- batches that have records
abbrev pub AreBatches : List Batch → Type 0
AreBatches ks = AllByRecursion AreItems ks

-- the records of batches, one after the other
abbrev pub spelled_batches : Option ℕ → List Batch → List ℕ
spelled_batches signature ks = flat_map (spell_record signature) ks

-- the file of these batches: its header, and their records
abbrev pub file_text : FileId → LogFileFormat → List Batch → List ℕ
file_text id format ks = spelled_header format ++ spelled_batches (signature_of format.version id.seq) ks

-- these batches are read, and then what is read from behind them on
pub record ReadsFront (ks : List Batch) (behind whole : Reading) : Type 0 where
  pub contents_are : contents whole.batches ≡ ks ++ contents behind.batches
  pub to : whole.to ≡ behind.to
  pub fault : whole.fault ≡ behind.fault

-- batches that were written behind a header are read as they were, whatever follows them
abbrev pub WrittenBatchesAreRead : Type 0
WrittenBatchesAreRead =
    (id : FileId) (format : LogFileFormat) (ks : List Batch) (rest : List ℕ) → IsSpellable format → AreBatches ks → AreBytes (file_text id format ks ++ rest)
    → MatchResult (file_reading id (file_text id format ks ++ rest))
    (ReadsFront ks (read_from format.alignment (signature_of format.version id.seq) (length (file_text id format ks)) rest))
    (λ _. ⊥)

-- each image of a file that has nothing unsynced reads as the file does
abbrev pub StillFilesReadTheSame : Type 0
StillFilesReadTheSame = (id : FileId) (f : FileState) (bytes : List ℕ) → IsStill f → IsFileImage f bytes → file_reading id bytes ≡ file_reading id f.bytes

-- so does each image of a file that was synced
abbrev pub SyncedFilesReadTheSame : Type 0
SyncedFilesReadTheSame = (id : FileId) (f : FileState) (bytes : List ℕ) → IsFileImage (after_sync f) bytes → file_reading id bytes ≡ file_reading id f.bytes
