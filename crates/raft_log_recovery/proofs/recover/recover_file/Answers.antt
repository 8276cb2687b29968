use Rattle.std.proofs.Common.{◌≡◌, false, Some, Err, refl}
use Rattle.raft_log_disk.proofs.CauseLemmas.{at_err}
use Rattle.raft_log_recovery.proofs.EndLemmas.{repaired_placed}
use Rattle.raft_log_recovery.proofs.RepairLemmas.{stopped_same}
use Rattle.raft_log_recovery.proofs.ReplayLemmas.{file_fits}
use Rattle.raft_log_files.specs.declared.error.CorruptionFault.{CorruptionFault}
use Rattle.raft_log_recovery.specs.Repair.{cuts_faults, fault_in}
use Rattle.raft_log_recovery.proofs.CorruptLemmas.{passed_on}
use Rattle.std.proofs.Common.{◌⊎◌, inl, inr}
use Rattle.raft_log_disk.specs.Disk.{HasOneOf, IsNoFile}
use Rattle.raft_log_files.specs.declared.error.Error.{Error}
use Rattle.raft_log_recovery.specs.Caused.{IsFileFault, IsRefusal}
use Rattle.raft_log_pipe.proofs.CausedLemmas.{told_cause}
use Rattle.raft_log_recovery.proofs.CausedLemmas.{all_readable, recovery_for, replay_cause, taken_of}
use Rattle.raft_log_disk.proofs.RefusalLemmas.{no_more_same}
use Rattle.raft_log_pipe.proofs.EndLemmas.{not_given, not_ok}
use Rattle.raft_log_recovery.proofs.EarlyLemmas.{an_err}
use Rattle.raft_log_recovery.proofs.recover.recover_file.Goals as goal

pub returns-in_err-read-clause-err : goal.returns-in_err-read-clause-err
returns-in_err-read-clause-err g c = at_err _ _ (stopped_same (g.F.FileSystem.disk c.args.files.now) _ c.args.id c.args.fd.0 refl)

pub repair_file-requires-clause-fits : goal.repair_file-requires-clause-fits
repair_file-requires-clause-fits g c κs within =
    let met = g.met.F.FileSystem g.world.𝓛 g.world.𝓜 g.world.𝓡 ((λ s x. x), (λ x. x), (λ x. x), λ x. x) in
    file_fits (g.F.FileSystem.disk c.args.files.now) c.args.fd.0 (met.has_images c.args.files.now) c.requires

pub returns-clause-replayed : goal.returns-clause-replayed
returns-clause-replayed g c =
    let met = g.met.F.FileSystem g.world.𝓛 g.world.𝓜 g.world.𝓡 ((λ s x. x), (λ x. x), (λ x. x), λ x. x) in
    repaired_placed (g.M.ReplayMachine.has_replayed c.args.machine.now) (g.M.ReplayMachine.has_replayed c.replay_file.new.machine) (g.F.FileSystem.disk c.args.files.now) _ c.args.id c.args.fd.0
    (file_fits (g.F.FileSystem.disk c.args.files.now) c.args.fd.0 (met.has_images c.args.files.now) c.requires) c.in_ok-repair_file.ensures.ok c.in_ok-read.ensures.replayed

pub returns-in_err-repair_file-clause-corrupt : goal.returns-in_err-repair_file-clause-corrupt
returns-in_err-repair_file-clause-corrupt g c =
    passed_on (λ (f : CorruptionFault). (fault_in c.args.id ((g.F.FileSystem.disk c.args.files.now).file c.args.fd.0).bytes ≡ Some f) × (cuts_faults c.args.config.now.mode c.args.is_last ≡ false))
    c.in_err-repair_file.field-0.0 c.from_residual-in_err-repair_file.result c.from_residual-in_err-repair_file.ensures.1 (λ f same. c.in_err-repair_file.ensures.corrupt f (λ i. Err (same i)))

pub returns-in_err-read-clause-cause : goal.returns-in_err-read-clause-cause
returns-in_err-read-clause-cause g c =
    let free : Type 0 = g.F.FileSystem.is_bounded c.args.files.now in
    let d = g.F.FileSystem.disk c.args.files.now in
    let m = g.F.FileSystem.meter c.args.files.now in
    let unread : Type 0 = HasOneOf d c.args.fd.0 m.unreadable in
    told_cause c.from_residual.result c.in_err-read.field-0.0 (λ (e : Error). IsFileFault d c.args.fd.0 free m m e) c.from_residual.ensures.1
    (recovery_for unread ⊥ (IsRefusal free ⊥ m m ⊎ unread) ⊥ c.in_err-read.field-0.0 (λ x. inr x) (λ x. x) (replay_cause d m c.args.fd.0 c.in_err-read.field-0.0 c.requires c.in_err-read.ensures.err))

pub returns-in_err-repair_file-clause-cause : goal.returns-in_err-repair_file-clause-cause
returns-in_err-repair_file-clause-cause g c =
    let d = g.F.FileSystem.disk c.args.files.now in
    let a = g.F.FileSystem.meter c.args.files.now in
    let b = g.F.FileSystem.meter c.repair_file.new.files in
    let refused : Type 0 = IsRefusal (g.F.FileSystem.is_bounded c.args.files.now) ⊥ a b in
    told_cause c.from_residual-in_err-repair_file.result c.in_err-repair_file.field-0.0 (λ (e : Error). IsFileFault d c.args.fd.0 (g.F.FileSystem.is_bounded c.args.files.now) a b e) c.from_residual-in_err-repair_file.ensures.1
    (recovery_for refused (IsNoFile d c.args.fd.0) (refused ⊎ HasOneOf d c.args.fd.0 a.unreadable) ⊥ c.in_err-repair_file.field-0.0 (λ x. inl x) c.requires c.in_err-repair_file.ensures.cause)

-- ---- where nothing is set to refuse

pub returns-in_err-read-clause-taken : goal.returns-in_err-read-clause-taken
returns-in_err-read-clause-taken g c = λ none.
    let free : Type 0 = g.F.FileSystem.is_bounded c.args.files.now in
    let d = g.F.FileSystem.disk c.args.files.now in
    let m = g.F.FileSystem.meter c.args.files.now in
    taken_of free ⊥ ⊥ (HasOneOf d c.args.fd.0 m.unreadable) m m c.from_residual.result none (all_readable free d c.args.fd.0 m none) (returns-in_err-read-clause-cause g c)

pub returns-in_err-repair_file-clause-taken : goal.returns-in_err-repair_file-clause-taken
returns-in_err-repair_file-clause-taken g c = λ none.
    let free : Type 0 = g.F.FileSystem.is_bounded c.args.files.now in
    let d = g.F.FileSystem.disk c.args.files.now in
    let a = g.F.FileSystem.meter c.args.files.now in
    taken_of free ⊥ ⊥ (HasOneOf d c.args.fd.0 a.unreadable) a (g.F.FileSystem.meter c.repair_file.new.files) c.from_residual-in_err-repair_file.result none (all_readable free d c.args.fd.0 a none)
    (returns-in_err-repair_file-clause-cause g c)

pub returns-in_err-read-clause-ok : goal.returns-in_err-read-clause-ok
returns-in_err-read-clause-ok g c = not_ok _ _ c.from_residual.result c.from_residual.ensures.1

pub returns-in_err-read-clause-replayed : goal.returns-in_err-read-clause-replayed
returns-in_err-read-clause-replayed g c = not_ok _ _ c.from_residual.result c.from_residual.ensures.1

pub returns-in_err-read-clause-format : goal.returns-in_err-read-clause-format
returns-in_err-read-clause-format g c = not_given _ _ c.from_residual.result c.from_residual.ensures.1

pub returns-in_err-repair_file-clause-ok : goal.returns-in_err-repair_file-clause-ok
returns-in_err-repair_file-clause-ok g c = not_ok _ _ c.from_residual-in_err-repair_file.result c.from_residual-in_err-repair_file.ensures.1

pub returns-in_err-repair_file-clause-replayed : goal.returns-in_err-repair_file-clause-replayed
returns-in_err-repair_file-clause-replayed g c = not_ok _ _ c.from_residual-in_err-repair_file.result c.from_residual-in_err-repair_file.ensures.1

pub returns-in_err-repair_file-clause-format : goal.returns-in_err-repair_file-clause-format
returns-in_err-repair_file-clause-format g c = not_given _ _ c.from_residual-in_err-repair_file.result c.from_residual-in_err-repair_file.ensures.1

pub returns-in_err-read-clause-refused : goal.returns-in_err-read-clause-refused
returns-in_err-read-clause-refused g c = λ f e no. (an_err _ c.from_residual.result c.from_residual.ensures.1, refl)

pub returns-in_err-read-clause-later : goal.returns-in_err-read-clause-later
returns-in_err-read-clause-later g c = no_more_same _ _

pub returns-in_err-repair_file-clause-refused : goal.returns-in_err-repair_file-clause-refused
returns-in_err-repair_file-clause-refused g c = λ f e no. (an_err _ c.from_residual-in_err-repair_file.result c.from_residual-in_err-repair_file.ensures.1, (c.in_err-repair_file.ensures.refused f e no).1)

pub returns-in_err-repair_file-clause-err : goal.returns-in_err-repair_file-clause-err
returns-in_err-repair_file-clause-err g c = at_err c.from_residual-in_err-repair_file.result _ c.in_err-repair_file.ensures.err

pub returns-in_err-repair_file-clause-later : goal.returns-in_err-repair_file-clause-later
returns-in_err-repair_file-clause-later g c = c.in_err-repair_file.ensures.later

pub returns-clause-ok : goal.returns-clause-ok
returns-clause-ok g c = c.in_ok-repair_file.ensures.ok

pub returns-clause-format : goal.returns-clause-format
returns-clause-format g c = c.in_ok-read.ensures.format

pub returns-clause-err : goal.returns-clause-err
returns-clause-err g c = tt

pub returns-clause-corrupt : goal.returns-clause-corrupt
returns-clause-corrupt g c = λ f e. absurd cc

pub returns-clause-later : goal.returns-clause-later
returns-clause-later g c = c.in_ok-repair_file.ensures.later

pub returns-clause-cause : goal.returns-clause-cause
returns-clause-cause g c = tt
