-- Why a call on a pipe is refused: each error comes only for its cause.
use Rattle.std.specs.Prelude.{◌≡◌, ◌⊎◌, ℕ, ◌+◌, ◌-◌, ◌<◌, List, length}
use Rattle.raft_log_records.specs.declared.file_id.FileId.{FileId}
use Rattle.raft_log_records.specs.declared.file_id.LogQueue.{LogQueue}
use Rattle.raft_log_disk.specs.Text.{Text}
use Rattle.raft_log_disk.specs.Disk.{Disk, HasDirectory}
use Rattle.raft_log_disk.specs.Cause.{Lacks, Meter, Rises}
use Rattle.raft_log_files.specs.FileName.{IsFileSeq}
use Rattle.raft_log_files.specs.declared.error.Error.{Error}
use Rattle.raft_log_files.specs.declared.error.Error.TheVariants.{Io, Corruption, InvalidArgument, TryAgain, Memory, Other, EntryCompacted, EntryNotFound}
use Rattle.raft_log_files.specs.declared.error.OtherFault.TheVariants as other
use Rattle.raft_log_pipe.specs.declared.pipe.SinglePipe.{SinglePipe}
use Rattle.raft_log_pipe.specs.Alone.{directories_of_pipe, path_in}
use Rattle.raft_log_pipe.specs.Blocks.{IsOutOfSpan}
use Rattle.raft_log_pipe.specs.Pipe.{id_of}
use Rattle.raft_log_pipe.specs.Taken.{HasLost, IsFull, IsUnnumbered}

-- `Io` comes only of a refusal, `TryAgain` of want of space, `NoFileNumber` where no number is left for a file, and `FileGone` where what a call names isn't
-- there. `Memory` may come of any call, and no other error comes
abbrev pub IsCaused : (refused cramped unnumbered absent : Type 0) → Error → Type 0
IsCaused refused cramped unnumbered absent Memory = Unit {0}
IsCaused refused cramped unnumbered absent (Io f) = refused
IsCaused refused cramped unnumbered absent TryAgain = cramped
IsCaused refused cramped unnumbered absent (Other other.NoFileNumber) = unnumbered
IsCaused refused cramped unnumbered absent (Other other.FileGone) = absent
IsCaused refused cramped unnumbered absent (Other other.PurgeBelowTarget) = ⊥
IsCaused refused cramped unnumbered absent (Other other.RecycleUnderVersion1) = ⊥
IsCaused refused cramped unnumbered absent (Other other.PrefillWithoutRecycle) = ⊥
IsCaused refused cramped unnumbered absent (Other other.NoTargetSize) = ⊥
IsCaused refused cramped unnumbered absent (Other other.NotADirectory) = ⊥
IsCaused refused cramped unnumbered absent (Other other.NumberOutOfSpan) = ⊥
IsCaused refused cramped unnumbered absent (Corruption f) = ⊥
IsCaused refused cramped unnumbered absent (InvalidArgument f) = ⊥
IsCaused refused cramped unnumbered absent EntryCompacted = ⊥
IsCaused refused cramped unnumbered absent EntryNotFound = ⊥

-- the file system counted a refusal in the call, or memory is missing
abbrev pub IsRefusalOrMemory : Meter → Meter → Error → Type 0
IsRefusalOrMemory old new e = IsCaused (Rises 1 old new) ⊥ ⊥ ⊥ e

-- ---- a new file

-- one of these directories isn't there for a log file
abbrev pub LacksDirectory : Disk → List Text → FileId → Type 0
LacksDirectory d directories id = (place : ℕ) × (place < length directories) × (HasDirectory d.directories (path_in directories place id) → ⊥)

-- so for the file that comes so many behind the last one of a pipe
abbrev pub LacksPlace : SinglePipe → Disk → ℕ → Type 0
LacksPlace p d n = LacksDirectory d (directories_of_pipe p) (id_of p.queue (p.active.seq + n))

-- no number is left for it
abbrev pub LacksNumber : SinglePipe → ℕ → Type 0
LacksNumber p n = IsFileSeq (p.active.seq + n) → ⊥

-- of a rotation
abbrev pub IsRotationFault : SinglePipe → Disk → Meter → Meter → Error → Type 0
IsRotationFault p d old new e = IsCaused (Rises 1 old new) ⊥ (IsUnnumbered p) (LacksPlace p d 1) e

-- of the making of the first file of a queue
abbrev pub IsCreationFault : List Text → LogQueue → Disk → Meter → Meter → Error → Type 0
IsCreationFault directories queue d old new e = IsCaused (Rises 1 old new) ⊥ ⊥ (LacksDirectory d directories (id_of queue 1)) e

-- ---- an append

-- an append begins so many files: one where the last one is full, and one for each write without space that was counted
pub record BeginsFiles (full : Type 0) (old new : Meter) (n : ℕ) : Type 0 where
  pub some : 0 < n
  pub counts : Lacks n old new ⊎ (full × Lacks (n - 1) old new)

-- it is refused where a file that it begins has no number or no place
abbrev pub IsPutFault : (full cramped : Type 0) → SinglePipe → Disk → Meter → Meter → Error → Type 0
IsPutFault full cramped p d old new e =
    IsCaused (Rises 1 old new) cramped ((n : ℕ) × BeginsFiles full old new n × LacksNumber p n) ((n : ℕ) × BeginsFiles full old new n × LacksPlace p d n) e

-- two writes found no space
abbrev pub IsAppendFault : SinglePipe → Disk → Meter → Meter → Error → Type 0
IsAppendFault p d old new e = IsPutFault (IsFull p) (Lacks 2 old new) p d old new e

-- the second append of a call begins a file anyway
abbrev pub IsSecondAppendFault : SinglePipe → Disk → Meter → Meter → Error → Type 0
IsSecondAppendFault p d old new e = IsPutFault (Unit {0}) (Lacks 1 old new) p d old new e

-- what is left to do behind it without space: `TryAgain` has its cause by then
abbrev pub IsGivenUpFault : SinglePipe → Disk → Meter → Meter → Error → Type 0
IsGivenUpFault p d old new e = IsCaused (Rises 1 old new) (Unit {0}) (LacksNumber p 1) (LacksPlace p d 1) e

-- ---- a purge

-- no file has the number, or one that is to go isn't there
abbrev pub IsPurgeFault : SinglePipe → Disk → ℕ → Meter → Meter → Error → Type 0
IsPurgeFault p d seq old new e = ((e ≡ Other other.NumberOutOfSpan) × IsOutOfSpan p seq) ⊎ IsCaused (Rises 1 old new) ⊥ ⊥ (HasLost p d seq) e
