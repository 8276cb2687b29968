-- One file of a pipe: its batches, and where the next one goes.
use Rattle.std.specs.Prelude.{◌≡◌, ◌⊎◌, ℕ, ◌<◌, ◌≤◌, List, ◌++◌, length, take, replicate}
use Rattle.std.specs.List.{AllByRecursion}
use Rattle.raft_log_records.specs.declared.file_id.FileId.{FileId}
use Rattle.raft_log_disk.specs.declared.format.LogFileFormat.{LogFileFormat}
use Rattle.raft_log_disk.specs.Disk.{FileState}
use Rattle.raft_log_disk.specs.Image.{IsStill}
use Rattle.raft_log_file.specs.Laws.{Batch, file_text}
use Rattle.raft_log_file.specs.Unsynced.{IsUnsynced}

-- a read sees a text, and zeros behind it
abbrev pub HasZerosBehind : List ℕ → List ℕ → Type 0
HasZerosBehind text bytes = (n : ℕ) × (bytes ≡ text ++ replicate n 0)

-- no write began at this place or later since the file got its name
pub record IsUnwritten (offset : ℕ) (f : FileState) : Type 0 where
  pub earlier : AllByRecursion (λ s. s.0 < offset) f.earlier
  pub later : AllByRecursion (λ s. s.0 < offset) f.later

-- A file of these batches, the first ones of them on the disk and the others written since. A read sees their records, and
-- behind them, where the next record goes, what no call wrote there or zeros
pub record IsStored (id : FileId) (format : LogFileFormat) (ks us : List Batch) (offset : ℕ) (f : FileState) : Type 0 where
  pub unsynced : IsUnsynced id format ks us f
  pub place : offset ≡ length (file_text id format (ks ++ us))
  pub front : take offset f.bytes ≡ file_text id format (ks ++ us)
  pub behind : IsUnwritten offset f ⊎ HasZerosBehind (file_text id format (ks ++ us)) f.bytes

-- nothing stands in the file from this place on, and all of it is on the disk: each of its images is what a read sees
pub record IsEnded (offset : ℕ) (f : FileState) : Type 0 where
  pub short : length f.bytes ≤ offset
  pub still : IsStill f
