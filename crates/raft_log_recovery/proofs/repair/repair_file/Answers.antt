use Rattle.std.proofs.Common.{refl, sym, ◌∙◌}
use Rattle.raft_log_recovery.proofs.RepairLemmas.{cut_none, cut_some, settled_err, settled_ok, stopped_same}
use Rattle.std.proofs.Common.{inl}
use Rattle.raft_log_recovery.specs.Caused.{IsRefusal}
use Rattle.raft_log_disk.specs.Disk.{IsNoFile}
use Rattle.raft_log_recovery.proofs.CausedLemmas.{recovery_caused}
use Rattle.raft_log_recovery.proofs.repair.repair_file.Goals as goal

pub returns-in-None-clause-ok : goal.returns-in-None-clause-ok
returns-in-None-clause-ok g c =
    settled_ok c.settle.result (g.F.FileSystem.disk c.args.files.now) _ c.args.id c.args.fd.0 _ c.requires.fits
    (cut_none c.args.id ((g.F.FileSystem.disk c.args.files.now).file c.args.fd.0) (sym c.requires.fault ∙ c.in-None.is)) c.settle.ensures.settles

pub returns-in-None-clause-err : goal.returns-in-None-clause-err
returns-in-None-clause-err g c =
    settled_err c.settle.result (g.F.FileSystem.disk c.args.files.now) _ c.args.id c.args.fd.0 _ c.requires.fits
    (cut_none c.args.id ((g.F.FileSystem.disk c.args.files.now).file c.args.fd.0) (sym c.requires.fault ∙ c.in-None.is)) c.settle.ensures.settles

pub returns-then-cuts-clause-ok : goal.returns-then-cuts-clause-ok
returns-then-cuts-clause-ok g c =
    settled_ok c.settle-then-cuts.result (g.F.FileSystem.disk c.args.files.now) _ c.args.id c.args.fd.0 _ c.requires.fits
    (cut_some c.args.id ((g.F.FileSystem.disk c.args.files.now).file c.args.fd.0) c.args.end.to c.requires.to) c.settle-then-cuts.ensures.settles

pub returns-then-cuts-clause-err : goal.returns-then-cuts-clause-err
returns-then-cuts-clause-err g c =
    settled_err c.settle-then-cuts.result (g.F.FileSystem.disk c.args.files.now) _ c.args.id c.args.fd.0 _ c.requires.fits
    (cut_some c.args.id ((g.F.FileSystem.disk c.args.files.now).file c.args.fd.0) c.args.end.to c.requires.to) c.settle-then-cuts.ensures.settles

pub returns-else-cuts-clause-err : goal.returns-else-cuts-clause-err
returns-else-cuts-clause-err g c = stopped_same (g.F.FileSystem.disk c.args.files.now) _ c.args.id c.args.fd.0 refl

pub returns-in-None-clause-cause : goal.returns-in-None-clause-cause
returns-in-None-clause-cause g c =
    let refused : Type 0 = IsRefusal (g.F.FileSystem.is_bounded c.args.files.now) ⊥ (g.F.FileSystem.meter c.args.files.now) (g.F.FileSystem.meter c.settle.new.files) in
    let gone : Type 0 = IsNoFile (g.F.FileSystem.disk c.args.files.now) c.args.fd.0 in
    recovery_caused refused gone refused gone c.settle.result (λ x. x) (λ x. x) c.settle.ensures.cause

pub returns-then-cuts-clause-cause : goal.returns-then-cuts-clause-cause
returns-then-cuts-clause-cause g c =
    let refused : Type 0 = IsRefusal (g.F.FileSystem.is_bounded c.args.files.now) ⊥ (g.F.FileSystem.meter c.args.files.now) (g.F.FileSystem.meter c.settle-then-cuts.new.files) in
    let gone : Type 0 = IsNoFile (g.F.FileSystem.disk c.args.files.now) c.args.fd.0 in
    recovery_caused refused gone refused gone c.settle-then-cuts.result (λ x. x) (λ x. x) c.settle-then-cuts.ensures.cause

pub returns-else-cuts-clause-cause : goal.returns-else-cuts-clause-cause
returns-else-cuts-clause-cause g c = inl (c.in-Some.fault, refl)
