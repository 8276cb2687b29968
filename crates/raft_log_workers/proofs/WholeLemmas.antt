-- Of the files of a builder's names and directories.
use Rattle.std.proofs.Common.{◌≡◌, ◌⊎◌, ◌++◌, List, Result, Err}
use Rattle.std.specs.Prelude.{IfErr, IfOk, IsErr, OnErr, Vec}
use Rattle.std.specs.declared.alloc.Global.{Global}
use Rattle.raft_log_disk.specs.Cause.{Meter, RefusesNoMore}
use Rattle.raft_log_disk.specs.Disk.{Disk}
use Rattle.raft_log_disk.specs.Text.{Text}
use Rattle.raft_log_files.specs.declared.error.CorruptionFault.{CorruptionFault}
use Rattle.raft_log_files.specs.declared.error.Error.{Error}
use Rattle.raft_log_files.specs.declared.error.Error.TheVariants.{Corruption}
use Rattle.raft_log_files.specs.declared.recovery.RecoveryConfig.{RecoveryConfig}
use Rattle.raft_log_pipe.specs.declared.file.File.{File}
use Rattle.raft_log_recovery.specs.declared.builder.DualPipesBuilder.{DualPipesBuilder}
use Rattle.raft_log_recovery.specs.declared.scan.FileKind.TheVariants.{Log}
use Rattle.raft_log_recovery.specs.declared.scan.FileName.{FileName}
use Rattle.raft_log_recovery.specs.Caused.{AnyUnreadable, AreEachRefused, IsMissing, IsRefusal}
use Rattle.raft_log_recovery.specs.Queue.{AnyRefused, AreLeft, AreReadAlike, AreRecovered, AreReplayed, KeepsRefused, OnlyChanges, directories_in, names_in}
use Rattle.raft_log_recovery.specs.Replay.{Placed}
use Rattle.raft_log_recovery.specs.Scan.{AreFound}
use Rattle.raft_log_recovery.specs.Ways.{Recovers}
use Rattle.raft_log_recovery.proofs.CausedLemmas.{found_missing, none_unreadable, recovery_more, taken_of}

-- what is said of the files of these names in these directories
pub record RecoversThese (before after : List Placed → Type 0) (config : RecoveryConfig) (old new : Disk) (bounded bounded_then : Type 0) (a b : Meter) (result : Result (Vec File Global) Error) (directories : List Text) (names : List FileName) : Type 0 where
  pub ok : IfOk result (λ v. AreRecovered directories config.queue old new names v.items)
  pub replayed : IfOk result (λ v. (placed : List Placed) → before placed → (more : List Placed) × after (placed ++ more) × AreReplayed config.queue new v.items more)
  pub only : OnlyChanges directories config.queue names old new
  pub reads : AreReadAlike directories config.queue names old new
  pub err : OnErr result (AreLeft directories config.queue names old new)
  pub refused : AnyRefused config.mode directories config.queue names old → IsErr result
  pub kept : OnErr result (KeepsRefused config.mode directories config.queue names old new)
  pub corrupt : (f : CorruptionFault) → result ≡ Err (Corruption f) → AnyRefused config.mode directories config.queue names old
  pub later : RefusesNoMore bounded bounded_then a b
  pub cause : IfErr result (λ e. AreEachRefused old directories config.queue names bounded a b e)

module _ (before after : List Placed → Type 0) (builder : DualPipesBuilder) (config : RecoveryConfig) (old new : Disk) (bounded bounded_then : Type 0) (a b : Meter) (result : Result (Vec File Global) Error) where
  abbrev directories : List Text
  directories = directories_in builder

  abbrev names : List FileName
  names = names_in builder config.queue

  abbrev refused : Type 0
  refused = IsRefusal bounded ⊥ a b ⊎ AnyUnreadable directories config.queue names a

  -- those that were found are there
  pub recovers : AreFound old (Log config.queue) directories names → RecoversThese before after config old new bounded bounded_then a b result directories names → Recovers before after builder config old new bounded bounded_then a b result
  recovers found these =
      let cause = recovery_more refused (IsMissing old directories config.queue names) refused ⊥ result (λ x. x) (found_missing old config.queue directories names found) these.cause in
      record {
        ok = these.ok;
        replayed = these.replayed;
        only = these.only;
        reads = these.reads;
        err = these.err;
        refused = these.refused;
        kept = these.kept;
        corrupt = these.corrupt;
        later = these.later;
        cause = cause;
        taken = λ none. taken_of bounded ⊥ ⊥ (AnyUnreadable directories config.queue names a) a b result none (none_unreadable bounded directories config.queue names a none) cause;
      }
