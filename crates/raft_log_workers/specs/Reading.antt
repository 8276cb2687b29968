-- What a worker tells of a file that it has read.
use Rattle.std.specs.Prelude.{◌≡◌, ℕ, List, Option, Some, None, Result, Ok, Err, slice_get}
use Rattle.raft_log_records.specs.declared.file_id.FileId.{FileId}
use Rattle.raft_log_records.specs.declared.file_id.LogQueue.{LogQueue}
use Rattle.raft_log_disk.specs.Cause.{Meter}
use Rattle.raft_log_disk.specs.Disk.{Disk}
use Rattle.raft_log_disk.specs.Text.{Text}
use Rattle.raft_log_files.specs.declared.error.CorruptionFault.{CorruptionFault}
use Rattle.raft_log_files.specs.declared.error.Error.{Error}
use Rattle.raft_log_files.specs.declared.error.Error.TheVariants.{Corruption}
use Rattle.raft_log_pipe.specs.Pipe.{id_of}
use Rattle.raft_log_recovery.specs.declared.reading.ReadFile.{ReadFile}
use Rattle.raft_log_recovery.specs.declared.scan.FileName.{FileName}
use Rattle.raft_log_recovery.specs.Caused.{IsReplayFault}
use Rattle.raft_log_recovery.specs.Queue.{IsFileOf}
use Rattle.raft_log_recovery.specs.Repair.{batches_in, end_in, fault_in, format_in}
use Rattle.raft_log_recovery.specs.Replay.{ArePlaced, Placed}

-- it is told how the file ends, and a machine has replayed just the file's batches
pub record IsReadAs (has_replayed : List Placed → Type 0) (d : Disk) (id : FileId) (fd : ℕ) (read : ReadFile) : Type 0 where
  pub to : read.end.to ≡ end_in id (d.file fd).bytes
  pub fault : read.end.fault ≡ fault_in id (d.file fd).bytes
  pub format : read.format ≡ format_in (d.file fd).bytes
  pub placed : List Placed
  pub has : has_replayed placed
  pub placed_are : ArePlaced id (d.file fd).bytes (batches_in id (d.file fd).bytes) placed

-- or it is told why the file can't be read. A fault of the file is none
abbrev pub IsUnread : Disk → Meter → ℕ → Error → Type 0
IsUnread d meter fd e = IsReplayFault d meter fd e × ((f : CorruptionFault) → e ≡ Corruption f → ⊥)

-- one of both
abbrev pub IsReadBy : (List Placed → Type 0) → Disk → Meter → FileId → ℕ → Option (Result ReadFile Error) → Type 0
IsReadBy has_replayed d meter id fd None = ⊥
IsReadBy has_replayed d meter id fd (Some (Ok read)) = IsReadAs has_replayed d id fd read
IsReadBy has_replayed d meter id fd (Some (Err e)) = IsUnread d meter fd e

-- it is the file of the name at this place, and was read
pub record IsReadAt (has_replayed : List Placed → Type 0) (d : Disk) (meter : Meter) (directories : List Text) (queue : LogQueue) (names : List FileName) (place : ℕ) (name : FileName) (fd : ℕ)
    (read : Option (Result ReadFile Error)) : Type 0 where
  pub here : slice_get names place ≡ Some name
  pub there : IsFileOf d directories queue name fd
  pub read_by : IsReadBy has_replayed d meter (id_of queue name.seq) fd read
