-- Both queues, opened one after the other: the rewrite queue first, unless the append queue has no files.
use Rattle.std.specs.Prelude.{◌≡◌, ◌⊎◌, ℕ, ◌-◌, min, List, ◌++◌, length, map, Result}
use Rattle.raft_log_records.specs.declared.file_id.LogQueue.{LogQueue}
use Rattle.raft_log_records.specs.declared.file_id.LogQueue.TheVariants.{Append, Rewrite}
use Rattle.raft_log_disk.specs.Cause.{Meter}
use Rattle.raft_log_disk.specs.Disk.{Disk}
use Rattle.raft_log_disk.specs.Text.{Text}
use Rattle.raft_log_files.specs.declared.recovery.RecoveryMode.{RecoveryMode}
use Rattle.raft_log_files.specs.declared.error.Error.{Error}
use Rattle.raft_log_files.specs.Settings.{Settings, prefill_capacity_of, recycle_capacity_of, settings_of}
use Rattle.raft_log_pipe.specs.declared.pipe.SinglePipe.{SinglePipe}
use Rattle.raft_log_pipe.specs.Alone.{IsAlone, IsOnce, directories_of_pipe}
use Rattle.raft_log_pipe.specs.declared.file.ReservedFile.{ReservedFile}
use Rattle.raft_log_pipe.specs.Others.{KeepsOthers}
use Rattle.raft_log_pipe.specs.Pipe.{IsPipe}
use Rattle.raft_log_pipe.specs.Reserved.{AreReserved}
use Rattle.raft_log_pipes.specs.declared.pipes.DualPipes.{DualPipes}
use Rattle.raft_log_pipes.specs.Pipes.{other_queue, pipe_of}
use Rattle.raft_log_recovery.specs.declared.builder.DualPipesBuilder.{DualPipesBuilder}
use Rattle.raft_log_recovery.specs.declared.scan.FileKind.TheVariants.{Log}
use Rattle.raft_log_recovery.specs.declared.scan.FileName.{FileName}
use Rattle.raft_log_recovery.specs.Again.{FindsAsBefore}
use Rattle.raft_log_recovery.specs.Caused.{AreFilesRefused, IsFirstBarred, IsFirstLacking, IsQueueFault, IsRecoveryTaken}
use Rattle.raft_log_recovery.specs.Holes.{HolesOnlyBroken}
use Rattle.raft_log_recovery.specs.Opening.{AnyAligned, IsPipeWith}
use Rattle.raft_log_recovery.specs.Queue.{AnyRefused, AreLeft, KeepsRefused, directories_in, names_in}
use Rattle.raft_log_recovery.specs.Replay.{Placed}
use Rattle.raft_log_recovery.specs.Scan.{AreFound}

-- the files of a queue that a builder has found stand in its directories
abbrev pub IsFoundBy : DualPipesBuilder → LogQueue → Disk → Type 0
IsFoundBy builder queue d = AreFound d (Log queue) (directories_in builder) (names_in builder queue)

-- one of them has a fault that the mode refuses, or a header that says an alignment
abbrev pub CantBeOpened : RecoveryMode → DualPipesBuilder → LogQueue → Disk → Type 0
CantBeOpened mode builder queue d =
    AnyRefused mode (directories_in builder) queue (names_in builder queue) d ⊎ AnyAligned (directories_in builder) queue (names_in builder queue) d

-- What an opening, refused or not, leaves of the files of a queue. Another one finds what it would have found before, whatever
-- a crash leaves of a file that was at rest reads as before, and a file that is refused stays with those behind it
pub record LeavesQueue (mode : RecoveryMode) (directories : List Text) (queue : LogQueue) (names : List FileName) (old new : Disk) : Type 0 where
  pub again : FindsAsBefore mode directories queue old new
  pub left : AreLeft directories queue names old new
  pub kept : KeepsRefused mode directories queue names old new

-- files of one queue changed, then files of the other, and nothing else
pub record ChangesBoth (old new : Disk) : Type 0 where
  pub first : LogQueue
  pub between : Disk
  pub earlier : KeepsOthers first old between
  pub later : KeepsOthers (other_queue first) between new

-- so much of both queues
pub record LeavesBoth (mode : RecoveryMode) (builder : DualPipesBuilder) (old new : Disk) : Type 0 where
  pub append : LeavesQueue mode (directories_in builder) Append (names_in builder Append) old new
  pub rewrite : LeavesQueue mode (directories_in builder) Rewrite (names_in builder Rewrite) old new
  pub only : ChangesBoth old new

-- a pipe begins files of the size and version that the settings say
abbrev pub IsSetBy : DualPipesBuilder → SinglePipe → Type 0
IsSetBy builder p = (p.target_file_size ≡ builder.config.target_file_size.0) × (p.default_format ≡ record { version = builder.config.format_version; alignment = 0 })

-- A pipe that can be used, of a queue in the builder's directories. Its files are the last ones there unless two had one number
pub record IsOpened (builder : DualPipesBuilder) (queue : LogQueue) (old new : Disk) (p : SinglePipe) : Type 0 where
  pub pipe : IsPipe p new
  pub queue_is : p.queue ≡ queue
  pub paths : directories_of_pipe p ≡ directories_in builder
  pub alone : IsOnce old.names (directories_in builder) queue → IsAlone p new
  pub settings : IsSetBy builder p

-- both pipes are so
pub record AreOpened (builder : DualPipesBuilder) (old new : Disk) (p : DualPipes) : Type 0 where
  pub append : IsOpened builder Append old new p.append
  pub rewrite : IsOpened builder Rewrite old new p.rewrite

-- Each pipe holds the batches that the files of its queue read as. A machine has got all of them: those of the rewrite queue,
-- then those of the append queue
pub record ArePipesWith (builder : DualPipesBuilder) (old new : Disk) (p : DualPipes) (all : List Placed) : Type 0 where
  pub rewrites : List Placed
  pub appends : List Placed
  pub all_are : all ≡ rewrites ++ appends
  pub rewrite : IsPipeWith (directories_in builder) Rewrite (names_in builder Rewrite) old new p.rewrite rewrites
  pub append : IsPipeWith (directories_in builder) Append (names_in builder Append) old new p.append appends

-- ---- errors

-- an error of a recovery of a queue's files has its cause
abbrev pub IsFaultInFiles : DualPipesBuilder → LogQueue → (bounded : Type 0) → Meter → Meter → Error → Type 0
IsFaultInFiles builder queue bounded old new e = AreFilesRefused ⊥ ⊥ (directories_in builder) queue (names_in builder queue) bounded old new e

-- so of an opening of a queue
abbrev pub IsFaultOf : DualPipesBuilder → LogQueue → Disk → Disk → (bounded : Type 0) → Meter → Meter → Error → Type 0
IsFaultOf builder queue d left bounded old new e = IsQueueFault (directories_in builder) queue (names_in builder queue) d left bounded old new e

-- and of an opening of both: in one of them
abbrev pub IsEitherFault : DualPipesBuilder → Disk → Disk → (bounded : Type 0) → Meter → Meter → Error → Type 0
IsEitherFault builder d left bounded old new e = (queue : LogQueue) × IsFaultOf builder queue d left bounded old new e

-- Where nothing is set to refuse an opening of a queue is taken, unless a file has a fault, memory is missing, or the queue has no
-- files and the first one can't be made
abbrev pub IsTaken : {T : Type 0} → DualPipesBuilder → LogQueue → Disk → Disk → Result T Error → Type 0
IsTaken builder queue d left result =
    IsRecoveryTaken (IsFirstLacking (directories_in builder) queue (names_in builder queue) d) (IsFirstBarred (directories_in builder) queue (names_in builder queue) left) result

-- so of both
abbrev pub AreTaken : {T : Type 0} → DualPipesBuilder → Disk → Disk → Result T Error → Type 0
AreTaken builder d left result =
    IsRecoveryTaken ((queue : LogQueue) × IsFirstLacking (directories_in builder) queue (names_in builder queue) d)
    ((queue : LogQueue) × IsFirstBarred (directories_in builder) queue (names_in builder queue) left) result

-- ---- holes

-- a pipe of a queue has none but of a broken header
abbrev pub HasFewHoles : DualPipesBuilder → LogQueue → Disk → Disk → SinglePipe → Type 0
HasFewHoles builder queue old new p = HolesOnlyBroken builder.config.recovery_mode (directories_in builder) queue (names_in builder queue) old new p

-- nor has either pipe
abbrev pub HaveFewHoles : DualPipesBuilder → Disk → Disk → DualPipes → Type 0
HaveFewHoles builder old new p = (queue : LogQueue) → HasFewHoles builder queue old new (pipe_of p queue)

-- ---- reserved files

-- those of these names
abbrev pub as_reserved : List FileName → List ReservedFile
as_reserved names = map (λ f. record { seq = f.seq; path_id = f.path_id }) names

-- how many files the append queue has at most, those that are kept for reuse and all others
abbrev pub capacity_in : DualPipesBuilder → ℕ
capacity_in builder = recycle_capacity_of (settings_of builder.config)

-- a pipe of these directories has this capacity, and the reserved files that were found, if each is there
pub record KeepsFound (builder : DualPipesBuilder) (queue : LogQueue) (directories : List Text) (d : Disk) (p : SinglePipe) : Type 0 where
  pub capacity : p.capacity ≡ capacity_in builder
  pub found : AreReserved queue directories d (as_reserved builder.reserved_file_names.items) → p.reserved.items ≡ as_reserved builder.reserved_file_names.items

-- how many of them an opening wants beside so many append files: as many as are made ahead, and no more than the capacity has room for
abbrev pub wanted_of : Settings → ℕ → ℕ
wanted_of settings count = min (prefill_capacity_of settings) (recycle_capacity_of settings - count)

-- beside the append files that a builder has found
abbrev pub wanted_in : DualPipesBuilder → ℕ
wanted_in builder = wanted_of (settings_of builder.config) (length builder.append_file_names.items)
