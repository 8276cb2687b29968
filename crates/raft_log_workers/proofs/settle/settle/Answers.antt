use Rattle.std.proofs.Common.{◌≡◌, ◌⊎◌, inl, false, Some, Err, refl, subst}
use Rattle.raft_log_disk.specs.Disk.{HasOneOf, IsNoFile}
use Rattle.raft_log_disk.proofs.CauseLemmas.{at_err}
use Rattle.raft_log_files.specs.declared.error.CorruptionFault.{CorruptionFault}
use Rattle.raft_log_files.specs.declared.error.Error.{Error}
use Rattle.raft_log_pipe.proofs.CausedLemmas.{told_cause}
use Rattle.raft_log_recovery.specs.Caused.{IsFileFault, IsRefusal}
use Rattle.raft_log_recovery.specs.Repair.{cuts_faults, fault_in}
use Rattle.raft_log_recovery.proofs.CausedLemmas.{recovery_for}
use Rattle.raft_log_recovery.proofs.CorruptLemmas.{passed_on}
use Rattle.raft_log_recovery.proofs.EndLemmas.{repaired_placed}
use Rattle.raft_log_recovery.proofs.RepairLemmas.{stopped_same}
use Rattle.raft_log_recovery.proofs.ReplayLemmas.{file_fits}
use Rattle.raft_log_workers.specs.Reading.{IsReadBy}
use Rattle.raft_log_workers.proofs.ReadingLemmas.{is_read, merged}
use Rattle.raft_log_workers.proofs.settle.settle.Goals as goal

pub unwrap-requires : goal.unwrap-requires
unwrap-requires g c =
    is_read (g.M.ReplayMachine.has_replayed c.args.share.machine) (g.F.FileSystem.disk c.args.files.now) (g.F.FileSystem.meter c.args.files.now) c.args.id c.args.share.fd.0 c.args.share.read c.requires.read

pub returns-in_err-read-clause-err : goal.returns-in_err-read-clause-err
returns-in_err-read-clause-err g c = at_err _ _ (stopped_same (g.F.FileSystem.disk c.args.files.now) _ c.args.id c.args.share.fd.0 refl)

pub returns-in_err-merge-clause-err : goal.returns-in_err-merge-clause-err
returns-in_err-merge-clause-err g c = at_err _ _ (stopped_same (g.F.FileSystem.disk c.args.files.now) _ c.args.id c.args.share.fd.0 refl)

pub repair_file-requires-clause-fits : goal.repair_file-requires-clause-fits
repair_file-requires-clause-fits g c κs within =
    let met = g.met.F.FileSystem g.world.𝓛 g.world.𝓜 g.world.𝓡 ((λ s x. x), (λ x. x), (λ x. x), λ x. x) in
    file_fits (g.F.FileSystem.disk c.args.files.now) c.args.share.fd.0 (met.has_images c.args.files.now) c.requires.there

pub returns-in_err-repair_file-clause-corrupt : goal.returns-in_err-repair_file-clause-corrupt
returns-in_err-repair_file-clause-corrupt g c =
    passed_on (λ (f : CorruptionFault). (fault_in c.args.id ((g.F.FileSystem.disk c.args.files.now).file c.args.share.fd.0).bytes ≡ Some f) × (cuts_faults c.args.config.now.mode c.args.is_last ≡ false))
    c.in_err-repair_file.field-0.0 c.from_residual-in_err-repair_file.result c.from_residual-in_err-repair_file.ensures.1 (λ f same. c.in_err-repair_file.ensures.corrupt f (λ i. Err (same i)))

pub returns-in_err-repair_file-clause-cause : goal.returns-in_err-repair_file-clause-cause
returns-in_err-repair_file-clause-cause g c =
    let d = g.F.FileSystem.disk c.args.files.now in
    let fd = c.args.share.fd.0 in
    let a = g.F.FileSystem.meter c.args.files.now in
    let b = g.F.FileSystem.meter c.repair_file.new.files in
    let refused : Type 0 = IsRefusal (g.F.FileSystem.is_bounded c.args.files.now) ⊥ a b in
    told_cause c.from_residual-in_err-repair_file.result c.in_err-repair_file.field-0.0 (λ (e : Error). IsFileFault d fd (g.F.FileSystem.is_bounded c.args.files.now) a b e) c.from_residual-in_err-repair_file.ensures.1
    (recovery_for refused (IsNoFile d fd) (refused ⊎ HasOneOf d fd a.unreadable) ⊥ c.in_err-repair_file.field-0.0 (λ x. inl x) c.requires.there c.in_err-repair_file.ensures.cause)

pub returns-clause-replayed : goal.returns-clause-replayed
returns-clause-replayed g c =
    let met = g.met.F.FileSystem g.world.𝓛 g.world.𝓜 g.world.𝓡 ((λ s x. x), (λ x. x), (λ x. x), λ x. x) in
    let d = g.F.FileSystem.disk c.args.files.now in
    let P = g.M.ReplayMachine.has_replayed c.args.share.machine in
    let Q = g.M.ReplayMachine.has_replayed c.args.machine.now in
    let R = g.M.ReplayMachine.has_replayed c.merge.new.self in
    repaired_placed Q R d _ c.args.id c.args.share.fd.0 (file_fits d c.args.share.fd.0 (met.has_images c.args.files.now) c.requires.there) c.in_ok-repair_file.ensures.ok
    (merged P Q R d c.args.id c.args.share.fd.0 c.in_ok-read.read
    (subst (IsReadBy P d (g.F.FileSystem.meter c.args.files.now) c.args.id c.args.share.fd.0) c.in_ok-read.ensures c.requires.read) c.in_ok-merge.ensures.replayed)
