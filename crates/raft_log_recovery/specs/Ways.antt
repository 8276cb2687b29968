-- What a recovery of a queue's files promises, in whatever way it is made: by one thread or by several.
use denote.Ref.{Bor, MutBor}
use Rattle.std.specs.Prelude.{◌≡◌, List, ◌++◌, Result, Err, IfErr, IfOk, IsErr, OnErr, Vec}
use Rattle.std.specs.declared.alloc.Global.{Global}
use Rattle.raft_log_disk.specs.Cause.{Meter, NothingRefuses, RefusesNoMore}
use Rattle.raft_log_disk.specs.Disk.{Disk}
use Rattle.raft_log_files.specs.declared.error.CorruptionFault.{CorruptionFault}
use Rattle.raft_log_files.specs.declared.error.Error.{Error}
use Rattle.raft_log_files.specs.declared.error.Error.TheVariants.{Corruption}
use Rattle.raft_log_files.specs.declared.recovery.RecoveryConfig.{RecoveryConfig}
use Rattle.raft_log_pipe.specs.declared.file.File.{File}
use Rattle.raft_log_recovery.specs.declared.builder.DualPipesBuilder.{DualPipesBuilder}
use Rattle.raft_log_recovery.specs.declared.scan.FileKind.TheVariants.{Log}
use Rattle.raft_log_recovery.specs.Both.{IsFaultInFiles}
use Rattle.raft_log_recovery.specs.Caused.{IsRecoveryTaken}
use Rattle.raft_log_recovery.specs.Queue.{AnyRefused, AreLeft, AreReadAlike, AreRecovered, AreReplayed, KeepsRefused, OnlyChanges, directories_in, names_in}
use Rattle.raft_log_recovery.specs.Replay.{Placed}
use Rattle.raft_log_recovery.specs.Scan.{AreFound}

-- Of the files of one queue between two disks, with what a machine has replayed before and after: after `Ok` each file is whole with
-- the batches that it read as, and the machine has got them in the order of the files. Refused or not, each file reads as the same
-- batches, a file with a fault that the mode refuses stays with those behind it, and each error has its cause
pub record Recovers (before after : List Placed → Type 0) (builder : DualPipesBuilder) (config : RecoveryConfig) (old new : Disk) (bounded bounded_then : Type 0) (meter meter_then : Meter)
    (result : Result (Vec File Global) Error) : Type 0 where
  pub ok : IfOk result (λ v. AreRecovered (directories_in builder) config.queue old new (names_in builder config.queue) v.items)
  pub replayed : IfOk result (λ v. (placed : List Placed) → before placed → (more : List Placed) × after (placed ++ more) × AreReplayed config.queue new v.items more)
  pub only : OnlyChanges (directories_in builder) config.queue (names_in builder config.queue) old new
  pub reads : AreReadAlike (directories_in builder) config.queue (names_in builder config.queue) old new
  pub err : OnErr result (AreLeft (directories_in builder) config.queue (names_in builder config.queue) old new)
  pub refused : AnyRefused config.mode (directories_in builder) config.queue (names_in builder config.queue) old → IsErr result
  pub kept : OnErr result (KeepsRefused config.mode (directories_in builder) config.queue (names_in builder config.queue) old new)
  pub corrupt : (f : CorruptionFault) → result ≡ Err (Corruption f) → AnyRefused config.mode (directories_in builder) config.queue (names_in builder config.queue) old
  pub later : RefusesNoMore bounded bounded_then meter meter_then
  pub cause : IfErr result (λ e. IsFaultInFiles builder config.queue bounded meter meter_then e)
  pub taken : NothingRefuses bounded meter → IsRecoveryTaken ⊥ ⊥ result

-- a function may be called where files were found, and recovers them
abbrev pub IsWay : {F M : Type 0} → (pre : Bor DualPipesBuilder → MutBor F → Bor RecoveryConfig → MutBor M → Type 0)
    → (post : Bor DualPipesBuilder → MutBor F → Bor RecoveryConfig → MutBor M → Result (Vec File Global) Error → MutBor F → MutBor M → Type 0)
    → (disk : F → Disk) (meter : F → Meter) (is_bounded : F → Type 0) (has_replayed : M → List Placed → Type 0) → Type 0
IsWay {F} {M} pre post disk meter is_bounded has_replayed =
    (b : Bor DualPipesBuilder) (f : MutBor F) (c : Bor RecoveryConfig) (m : MutBor M) → AreFound (disk f.now) (Log c.now.queue) (directories_in b.now) (names_in b.now c.now.queue)
    → pre b f c m
    × ((r : Result (Vec File Global) Error) (f' : MutBor F) (m' : MutBor M) → post b f c m r f' m'
    → Recovers (has_replayed m.now) (has_replayed m'.now) b.now c.now (disk f.now) (disk f'.now) (is_bounded f.now) (is_bounded f'.now) (meter f.now) (meter f'.now) r)
