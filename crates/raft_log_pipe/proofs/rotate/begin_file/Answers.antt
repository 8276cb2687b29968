use Rattle.std.proofs.Common.{Ok, Err, ap}
use Rattle.raft_log_disk.specs.Disk.{IsNoFile}
use Rattle.raft_log_disk.proofs.RefusalLemmas.{still_free}
use Rattle.raft_log_file.specs.declared.writer.LogFileWriter.{LogFileWriter}
use Rattle.raft_log_pipe.proofs.TakenLemmas.{no_file_before, still_taken}
use Rattle.raft_log_pipe.proofs.NextLemmas.{opened_begun, opened_changes, opened_short, unsynced_short}
use Rattle.raft_log_pipe.proofs.PipeLemmas.{changes_on, stays}
use Rattle.std.proofs.Common.{refl}
use Rattle.raft_log_pipe.proofs.TornLemmas.{opened_plain}
use Rattle.raft_log_pipe.proofs.rotate.begin_file.Goals as goal

pub returns-in-Err-clause-begun : goal.returns-in-Err-clause-begun
returns-in-Err-clause-begun g c = (
  opened_changes _ _ _ c.args.file.format (Err c.in-Err.fault) c.in-Err.ensures.opens,
  opened_short _ _ _ c.args.file.format (Err c.in-Err.fault) c.in-Err.ensures.opens,
)

pub returns-in-Err-sync-clause-begun : goal.returns-in-Err-sync-clause-begun
returns-in-Err-sync-clause-begun g c = (
  changes_on (g.F.FileSystem.disk c.args.files.now) (g.F.FileSystem.disk c.build_file_writer.new.files) (g.F.FileSystem.disk c.sync.new.files) c.args.file.handle.0
      (opened_changes _ _ _ c.args.file.format (Ok c.in-Ok.writer) c.in-Ok.ensures.opens) (stays _ _ _ c.in-Err-sync.ensures.err),
  unsynced_short (g.F.FileSystem.disk c.args.files.now) (g.F.FileSystem.disk c.build_file_writer.new.files) _ c.args.file.handle.0 (opened_short _ _ _ c.args.file.format (Ok c.in-Ok.writer) c.in-Ok.ensures.opens)
      c.in-Err-sync.ensures.err,
)

pub returns-in-Err-sync-clause-taken : goal.returns-in-Err-sync-clause-taken
returns-in-Err-sync-clause-taken g c = λ free.
    still_taken (Unit {0}) LogFileWriter (IsNoFile (g.F.FileSystem.disk c.build_file_writer.new.files) c.in-Ok.writer.fd.0) ⊥ (IsNoFile (g.F.FileSystem.disk c.args.files.now) c.args.file.handle.0) ⊥ c.in-Err-sync.fault
    (no_file_before _ _ _ _ (ap (λ h. h.0) c.in-Ok.ensures.file) (opened_changes _ _ _ c.args.file.format (Ok c.in-Ok.writer) c.in-Ok.ensures.opens)) (λ x. x)
    (c.in-Err-sync.ensures.taken (still_free free c.in-Ok.ensures.later))

pub returns-clause-begun : goal.returns-clause-begun
returns-clause-begun g c =
    opened_begun (g.F.FileSystem.disk c.args.files.now) (g.F.FileSystem.disk c.build_file_writer.new.files) (g.F.FileSystem.disk c.sync.new.files) c.args.file c.in-Ok.writer c.in-Ok.ensures.opens c.in-Ok.ensures.writer c.in-Ok.ensures.file c.in_default.ensures.ok

-- ---- what its header says then

pub returns-in-Err-clause-plain : goal.returns-in-Err-clause-plain
returns-in-Err-clause-plain g c = opened_plain _ _ _ _ c.args.file.format (Err c.in-Err.fault) c.requires c.in-Err.ensures.opens refl

pub returns-in-Err-sync-clause-plain : goal.returns-in-Err-sync-clause-plain
returns-in-Err-sync-clause-plain g c = opened_plain _ _ _ _ c.args.file.format (Ok c.in-Ok.writer) c.requires c.in-Ok.ensures.opens c.in-Err-sync.ensures.err
