-- What a repair leaves of the log files of a directory: the batches that an opening takes, and nothing behind them.
use Rattle.std.specs.Prelude.{ℕ, ◌≡◌, List, [], ◌∷◌}
use Rattle.raft_log_records.specs.declared.file_id.LogQueue.{LogQueue}
use Rattle.raft_log_disk.specs.Text.{Text}
use Rattle.raft_log_disk.specs.Disk.{Disk, IsIn}
use Rattle.raft_log_files.specs.declared.recovery.RecoveryMode.{RecoveryMode}
use Rattle.raft_log_pipe.specs.Pipe.{id_of}
use Rattle.raft_log_recovery.specs.declared.scan.FileKind.TheVariants.{Log}
use Rattle.raft_log_recovery.specs.declared.scan.FileName.{FileName}
use Rattle.raft_log_recovery.specs.Queue.{AnyRefused, IsFileOf}
use Rattle.raft_log_recovery.specs.Repair.{IsWhole, batches_in}
use Rattle.raft_log_recovery.specs.Scan.{AreFound}

-- each of these files of a queue has just the whole batches that it had, all on the disk
abbrev pub AreWholeIn : List Text → LogQueue → List FileName → Disk → Disk → Type 0
AreWholeIn directories queue names old new =
    (name : FileName) (fd : ℕ) → IsIn name names → IsFileOf old directories queue name fd
    → IsWhole (id_of queue name.seq) (new.file fd) (batches_in (id_of queue name.seq) (old.file fd).bytes)

-- Of a queue none of the files that an opening finds had a fault that the mode refuses, and each has now just the whole batches
-- that it had, all on the disk
pub record IsRepairedIn (mode : RecoveryMode) (directory : Text) (queue : LogQueue) (old new : Disk) : Type 0 where
  pub names : List FileName
  pub found : AreFound old (Log queue) (directory ∷ []) names
  pub passed : AnyRefused mode (directory ∷ []) queue names old → ⊥
  pub whole : AreWholeIn (directory ∷ []) queue names old new

-- a file that an opening finds has such a fault
abbrev pub HasRefusedIn : RecoveryMode → Text → Disk → Type 0
HasRefusedIn mode directory d =
    (queue : LogQueue) × (names : List FileName) × AreFound d (Log queue) (directory ∷ []) names × AnyRefused mode (directory ∷ []) queue names d

-- an opening of the directory finds this file
abbrev pub IsFoundIn : Text → Disk → ℕ → Type 0
IsFoundIn directory d fd =
    (queue : LogQueue) × (names : List FileName) × (name : FileName) × AreFound d (Log queue) (directory ∷ []) names × IsIn name names
    × IsFileOf d (directory ∷ []) queue name fd

-- all names stay, and all files that an opening of the directory doesn't find
pub record KeepsOutside (directory : Text) (old new : Disk) : Type 0 where
  pub names : new.names ≡ old.names
  pub files : (fd : ℕ) → (IsFoundIn directory old fd → ⊥) → new.file fd ≡ old.file fd
