-- A recovery into one machine whose batches another one replays.
use Rattle.std.proofs.Common.{◌≡◌, inr, List, Result, Ok, Err, refl, subst}
use Rattle.std.proofs.lemmas.Result.{err_from_is_err_and}
use Rattle.std.specs.Prelude.{IsErrAnd, Vec}
use Rattle.std.specs.declared.alloc.Global.{Global}
use Rattle.raft_log_disk.specs.Cause.{Meter}
use Rattle.raft_log_disk.specs.Disk.{Disk}
use Rattle.raft_log_files.specs.declared.error.Error.{Error}
use Rattle.raft_log_files.specs.declared.error.Error.TheVariants.{Memory}
use Rattle.raft_log_files.specs.declared.recovery.RecoveryConfig.{RecoveryConfig}
use Rattle.raft_log_pipe.specs.declared.file.File.{File}
use Rattle.raft_log_recovery.specs.declared.builder.DualPipesBuilder.{DualPipesBuilder}
use Rattle.raft_log_recovery.specs.Queue.{directories_in, names_in}
use Rattle.raft_log_recovery.specs.Replay.{Placed}
use Rattle.raft_log_recovery.specs.Ways.{Recovers}
use Rattle.raft_log_recovery.proofs.BothLemmas.{kept_either}
use Rattle.raft_log_recovery.proofs.OpeningLemmas.{recovered_left}

module _ (before after : List Placed → Type 0) (other_before other_after : List Placed → Type 0) (b : DualPipesBuilder) (config : RecoveryConfig) (old new : Disk) (bounded bounded_then : Type 0) (a z : Meter) where
  -- where it is refused nothing is replayed
  pub refused_so : (e : Error) (r : Result (Vec File Global) Error) → IsErrAnd r (λ y. y ≡ e) → Recovers before after b config old new bounded bounded_then a z (Err e) → Recovers other_before other_after b config old new bounded bounded_then a z r
  refused_so e r is way =
      let p = err_from_is_err_and r is in
      let same : Err e ≡ r = cc (p.1, p.2) in
      subst (λ (x : Result (Vec File Global) Error). Recovers other_before other_after b config old new bounded bounded_then a z x) same (record {
        ok = tt;
        replayed = tt;
        only = way.only;
        reads = way.reads;
        err = way.err;
        refused = λ any. refl;
        kept = way.kept;
        corrupt = way.corrupt;
        later = way.later;
        cause = way.cause;
        taken = way.taken;
      })

  -- behind a recovery memory may be missing
  pub unreplayed_so : (v : Vec File Global) (e : Error) (r : Result (Vec File Global) Error) → IsErrAnd r (λ y. y ≡ e) → e ≡ Memory → Recovers before after b config old new bounded bounded_then a z (Ok v) → Recovers other_before other_after b config old new bounded bounded_then a z r
  unreplayed_so v e r is missing way =
      let p = err_from_is_err_and r is in
      let same : Err Memory ≡ r = cc (p.1, p.2, missing) in
      let recovered : Result (Vec File Global) Error = Ok v in
      subst (λ (x : Result (Vec File Global) Error). Recovers other_before other_after b config old new bounded bounded_then a z x) same (record {
        ok = tt;
        replayed = tt;
        only = way.only;
        reads = way.reads;
        err = recovered_left (directories_in b) config.queue old new (names_in b config.queue) v.items way.ok;
        refused = λ any. refl;
        kept = kept_either recovered config.mode (directories_in b) config.queue (names_in b config.queue) old new way.refused way.kept;
        corrupt = λ f corrupt. absurd cc;
        later = way.later;
        cause = inr tt;
        taken = λ free. inr tt;
      })
