-- Why a recovery is refused: each error comes only for its cause.
use Rattle.std.specs.Prelude.{◌≡◌, ◌⊎◌, ℕ, List, [], None, Result, Err}
use Rattle.raft_log_records.specs.declared.file_id.LogQueue.{LogQueue}
use Rattle.raft_log_disk.specs.Text.{Text}
use Rattle.raft_log_disk.specs.Disk.{Disk, HasOneOf, IsIn, IsNoNewFile, fd_of}
use Rattle.raft_log_disk.specs.Cause.{Meter, NothingRefuses, Rises}
use Rattle.raft_log_files.specs.declared.error.CorruptionFault.{CorruptionFault}
use Rattle.raft_log_files.specs.declared.error.Error.{Error}
use Rattle.raft_log_files.specs.declared.error.Error.TheVariants.{Corruption}
use Rattle.raft_log_file.specs.Errors.{IsReadFault}
use Rattle.raft_log_pipe.specs.Caused.{IsCaused, LacksDirectory}
use Rattle.raft_log_pipe.specs.Taken.{IsTakenBy}
use Rattle.raft_log_pipe.specs.Alone.{path_in}
use Rattle.raft_log_pipe.specs.Pipe.{id_of}
use Rattle.raft_log_recovery.specs.declared.scan.FileName.{FileName}
use Rattle.raft_log_recovery.specs.Queue.{path_of}

-- bytes of the file are no header or no record, or it isn't read
abbrev pub IsReplayFault : Disk → Meter → ℕ → Error → Type 0
IsReplayFault d meter fd e = ((f : CorruptionFault) × (e ≡ Corruption f)) ⊎ IsReadFault d meter fd e

-- a file has a fault, of which the clauses `corrupt` tell, or the error has its cause
abbrev pub IsRecoveryFault : (refused absent : Type 0) → Error → Type 0
IsRecoveryFault refused absent e = ((f : CorruptionFault) × (e ≡ Corruption f)) ⊎ IsCaused refused ⊥ ⊥ absent e

-- a call was refused and counted. Where nothing is set to refuse calls it was one that can't be taken
abbrev pub IsRefusal : (bounded barred : Type 0) → Meter → Meter → Type 0
IsRefusal bounded barred old new = Rises 1 old new × (NothingRefuses bounded old → barred)

-- of a call: it was refused so, or what it names isn't there
abbrev pub IsCallFault : (absent bounded : Type 0) → Meter → Meter → Error → Type 0
IsCallFault absent bounded old new e = IsCaused (IsRefusal bounded ⊥ old new) ⊥ ⊥ absent e

-- of a file: a call on it was refused so, or its reads are refused
abbrev pub IsFileFault : Disk → ℕ → (bounded : Type 0) → Meter → Meter → Error → Type 0
IsFileFault d fd bounded old new e = IsRecoveryFault (IsRefusal bounded ⊥ old new ⊎ HasOneOf d fd old.unreadable) ⊥ e

-- reads of one of these files are refused
abbrev pub AnyUnreadable : List Text → LogQueue → List FileName → Meter → Type 0
AnyUnreadable directories queue names meter = (name : FileName) × IsIn name names × IsIn (path_of directories queue name) meter.unreadable

-- one of them isn't there
abbrev pub IsMissing : Disk → List Text → LogQueue → List FileName → Type 0
IsMissing d directories queue names = (name : FileName) × IsIn name names × (fd_of d.names (path_of directories queue name) ≡ None)

-- of files of these names
abbrev pub AreFilesRefused : (absent barred : Type 0) → List Text → LogQueue → List FileName → (bounded : Type 0) → Meter → Meter → Error → Type 0
AreFilesRefused absent barred directories queue names bounded old new e = IsRecoveryFault (IsRefusal bounded barred old new ⊎ AnyUnreadable directories queue names old) absent e

-- they may be missing
abbrev pub AreEachRefused : Disk → List Text → LogQueue → List FileName → (bounded : Type 0) → Meter → Meter → Error → Type 0
AreEachRefused d directories queue names bounded old new e = AreFilesRefused (IsMissing d directories queue names) ⊥ directories queue names bounded old new e

-- a queue has no files, and there is no directory for its first one
abbrev pub IsFirstLacking : List Text → LogQueue → List FileName → Disk → Type 0
IsFirstLacking directories queue names d = (names ≡ []) × LacksDirectory d directories (id_of queue 1)

-- or the file system has no number for it, or a directory has its path
abbrev pub IsFirstBarred : List Text → LogQueue → List FileName → Disk → Type 0
IsFirstBarred directories queue names d = (names ≡ []) × IsNoNewFile d (path_in directories 0 (id_of queue 1))

-- of a queue, between two disks
abbrev pub IsQueueFault : List Text → LogQueue → List FileName → Disk → Disk → (bounded : Type 0) → Meter → Meter → Error → Type 0
IsQueueFault directories queue names d left bounded old new e =
    AreFilesRefused (IsFirstLacking directories queue names d) (IsFirstBarred directories queue names left) directories queue names bounded old new e

-- ---- where nothing is set to refuse

-- a recovery is taken unless a file has a fault, memory is missing, what it names isn't there, or what it asks for can't be
abbrev pub IsRecoveryTaken : {T : Type 0} → (absent barred : Type 0) → Result T Error → Type 0
IsRecoveryTaken absent barred result = ((f : CorruptionFault) × (result ≡ Err (Corruption f))) ⊎ IsTakenBy ⊥ absent barred result
