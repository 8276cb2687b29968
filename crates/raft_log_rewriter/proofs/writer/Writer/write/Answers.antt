-- A record, and a sync behind it.
use Rattle.raft_log_disk.proofs.RefusalLemmas.{no_more_then}
use Rattle.raft_log_cleaner.proofs.Going.{when_ok}
use Rattle.raft_log_cleaner.proofs.Caused.{cause_then}
use Rattle.raft_log_rewriter.proofs.Steps.{record_refused, record_synced}
use Rattle.raft_log_rewriter.proofs.writer.Writer.write.Goals as goal

pub returns-in_err-len-clause-writes : goal.returns-in_err-len-clause-writes
returns-in_err-len-clause-writes g c =
    record_refused _ (g.F.FileSystem.disk c.args.files.now) (g.F.FileSystem.disk c.write_batch.new.files) c.args.pipes.now c.write_batch.new.pipes c.args.log.now c.write_batch.new.log c.args.self.now.batch.items c.from_residual.result c.in_err-len.field-0.0
    c.from_residual.ensures.1 c.in_err-len.ensures.writes

pub returns-clause-writes : goal.returns-clause-writes
returns-clause-writes g c =
    let d = g.F.FileSystem.disk c.args.files.now in
    record_synced d (g.F.FileSystem.disk c.write_batch.new.files) (g.F.FileSystem.disk c.sync_rewrites.new.files) c.args.pipes.now c.write_batch.new.pipes c.sync_rewrites.new.pipes c.args.log.now c.write_batch.new.log c.args.self.now.batch.items c.in_ok-len.len c.sync_rewrites.result
    c.in_ok-len.ensures.writes c.sync_rewrites.ensures.syncs

pub returns-clause-emptied : goal.returns-clause-emptied
returns-clause-emptied g c = when_ok c.sync_rewrites.result c.in_ok-len.ensures.emptied

pub returns-clause-later : goal.returns-clause-later
returns-clause-later g c = no_more_then c.in_ok-len.ensures.later c.sync_rewrites.ensures.later

pub returns-clause-cause : goal.returns-clause-cause
returns-clause-cause g c = cause_then c.in_ok-len.ensures.later (g.F.FileSystem.meter c.sync_rewrites.new.files) c.sync_rewrites.result c.sync_rewrites.ensures.cause
