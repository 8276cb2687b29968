-- Groups are marked, and then rewritten.
use Rattle.raft_log_disk.proofs.RefusalLemmas.{no_more_then}
use Rattle.raft_log_cleaner.proofs.Caused.{cause_then}
use Rattle.raft_log_cleaner.proofs.Going.{gone_more, gone_refused, gone_then, not_yet}
use Rattle.raft_log_cleaner.proofs.manager.write_each.Goals as goal

pub returns-in_err-mark_each-clause-goes_on : goal.returns-in_err-mark_each-clause-goes_on
returns-in_err-mark_each-clause-goes_on g c =
    gone_refused c.from_residual.result c.in_err-mark_each.field-0.0 c.from_residual.ensures.1 (not_yet (g.F.FileSystem.disk c.args.files.now) c.args.pipes.now c.args.log.now c.args.writer.now.batch.items) c.in_err-mark_each.ensures.goes_on

pub rewrite_each-requires-after_bounds : goal.rewrite_each-requires-after_bounds
rewrite_each-requires-after_bounds g c κs within = (c.requires.0, c.in_ok-mark_each.ensures.goes_on.ok c.requires.0 c.requires.1)

pub returns : goal.returns
returns g c = record {
  goes_on = gone_then c.rewrite_each.result (gone_more tt (not_yet (g.F.FileSystem.disk c.args.files.now) c.args.pipes.now c.args.log.now c.args.writer.now.batch.items) c.in_ok-mark_each.ensures.goes_on) c.rewrite_each.ensures.goes_on;
  later = no_more_then c.in_ok-mark_each.ensures.later c.rewrite_each.ensures.later;
  cause = cause_then c.in_ok-mark_each.ensures.later (g.F.FileSystem.meter c.rewrite_each.new.files) c.rewrite_each.result c.rewrite_each.ensures.cause;
}
