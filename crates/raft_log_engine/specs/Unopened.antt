-- Why an opening is refused: each error comes only for its cause.
use Rattle.std.specs.Prelude.{◌≡◌, ◌⊎◌, ◌-◌, ◌^◌, List, Option, Some}
use Rattle.raft_log_records.specs.declared.file_id.LogQueue.{LogQueue}
use Rattle.raft_log_disk.specs.Text.{Text}
use Rattle.raft_log_disk.specs.Disk.{Disk}
use Rattle.raft_log_disk.specs.Cause.{Meter}
use Rattle.raft_log_files.specs.declared.error.Error.{Error}
use Rattle.raft_log_files.specs.declared.error.Error.TheVariants.{Io, Corruption, InvalidArgument, TryAgain, Memory, Other, EntryCompacted, EntryNotFound}
use Rattle.raft_log_files.specs.declared.error.OtherFault.{OtherFault}
use Rattle.raft_log_files.specs.declared.error.OtherFault.TheVariants.{NotADirectory}
use Rattle.raft_log_files.specs.declared.recovery.RecoveryMode.{RecoveryMode}
use Rattle.raft_log_pipe.specs.Prepared.{LacksNumbers}
use Rattle.raft_log_recovery.specs.declared.scan.FileKind.TheVariants.{Log}
use Rattle.raft_log_recovery.specs.declared.scan.FileName.{FileName}
use Rattle.raft_log_recovery.specs.Caused.{AnyUnreadable, IsFirstBarred, IsRefusal}
use Rattle.raft_log_recovery.specs.Scan.{AnyFile, AreFound, OnlyMakes}
use Rattle.raft_log_engine.specs.Caused.{IsCausedBy}
use Rattle.raft_log_engine.specs.Opening.{CantBeOpened}
use Rattle.raft_log_engine.specs.declared.fault.EngineFault.{EngineFault}

-- Files of a queue are found once the directories are there. The file system refuses reads of one of them, or it refused a
-- changing call, which it counts. Where nothing is set to refuse that call was to make the first file of a queue that has none,
-- and no number is left for it, or a directory has its path
pub record IsQueueRefused (directories : List Text) (d left : Disk) (bounded : Type 0) (old new : Meter) (queue : LogQueue) : Type 0 where
  pub made : Disk
  pub names : List FileName
  pub makes : OnlyMakes directories d made
  pub found : AreFound made (Log queue) directories names
  pub refused : IsRefusal bounded (IsFirstBarred directories queue names left) old new ⊎ AnyUnreadable directories queue names old

-- no numbers are left for as many reserved files as an opening may make: settings want fewer than 2^32
abbrev pub LacksForReserved : Disk → Type 0
LacksForReserved left = LacksNumbers left (2 ^ 32 - 1)

-- It refused to make a directory, or to make or delete a reserved file, or so of either queue. Where nothing is set to refuse that
-- was a reserved file without a number
abbrev pub AreCallsRefused : List Text → Disk → Disk → (bounded : Type 0) → Meter → Meter → Type 0
AreCallsRefused directories d left bounded old new =
    IsRefusal bounded (LacksForReserved left) old new ⊎ ((queue : LogQueue) × IsQueueRefused directories d left bounded old new queue)

-- the settings have this fault, or a directory's path is a file
abbrev pub IsSetUpFault : Option OtherFault → List Text → Disk → OtherFault → Type 0
IsSetUpFault unsound directories d f = (unsound ≡ Some f) ⊎ ((f ≡ NotADirectory) × AnyFile directories d)

-- a call on files was refused, a file has a fault, or the settings or directories have: each error for its cause. Memory may be
-- missing, and no other error comes
abbrev pub IsOpeningError : (refused corrupt : Type 0) → (OtherFault → Type 0) → Error → Type 0
IsOpeningError refused corrupt unset Memory = Unit {0}
IsOpeningError refused corrupt unset (Io f) = refused
IsOpeningError refused corrupt unset (Corruption f) = corrupt
IsOpeningError refused corrupt unset (Other f) = unset f
IsOpeningError refused corrupt unset (InvalidArgument f) = ⊥
IsOpeningError refused corrupt unset TryAgain = ⊥
IsOpeningError refused corrupt unset EntryCompacted = ⊥
IsOpeningError refused corrupt unset EntryNotFound = ⊥

-- of an opening of a disk in these directories, which leaves another disk, under settings that may have a fault
abbrev pub IsOpeningFault : Option OtherFault → RecoveryMode → List Text → Disk → Disk → (bounded : Type 0) → Meter → Meter → EngineFault → Type 0
IsOpeningFault unsound mode directories d left bounded old new fault =
    IsCausedBy ⊥ ⊥ ⊥
    (IsOpeningError (AreCallsRefused directories d left bounded old new) ((queue : LogQueue) × CantBeOpened mode directories queue d)
    (IsSetUpFault unsound directories d)) fault

-- ---- where nothing is set to refuse

-- a queue has no files, and no number is left for its first one, or a directory has its path
pub record IsFirstUnmade (directories : List Text) (d left : Disk) (queue : LogQueue) : Type 0 where
  pub made : Disk
  pub names : List FileName
  pub makes : OnlyMakes directories d made
  pub found : AreFound made (Log queue) directories names
  pub barred : IsFirstBarred directories queue names left

-- then an opening is refused only so, or for want of memory, for a file with a fault, or for the settings or directories
abbrev pub IsUnopenable : Option OtherFault → RecoveryMode → List Text → Disk → Disk → EngineFault → Type 0
IsUnopenable unsound mode directories d left fault =
    IsCausedBy ⊥ ⊥ ⊥
    (IsOpeningError (LacksForReserved left ⊎ ((queue : LogQueue) × IsFirstUnmade directories d left queue)) ((queue : LogQueue) × CantBeOpened mode directories queue d)
    (IsSetUpFault unsound directories d)) fault
