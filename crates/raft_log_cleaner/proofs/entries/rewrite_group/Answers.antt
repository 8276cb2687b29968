-- Marks, entries and keys of a group, one after the other.
use Rattle.raft_log_disk.proofs.RefusalLemmas.{no_more_then}
use Rattle.raft_log_cleaner.proofs.Caused.{cause_then, refused_then}
use Rattle.raft_log_cleaner.proofs.Going.{gone_more, gone_refused, gone_then, not_yet}
use Rattle.raft_log_cleaner.proofs.entries.rewrite_group.Goals as goal

pub returns-in_err-mark-clause-goes_on : goal.returns-in_err-mark-clause-goes_on
returns-in_err-mark-clause-goes_on g c =
    gone_refused c.from_residual.result c.in_err-mark.field-0.0 c.from_residual.ensures.1 (not_yet (g.F.FileSystem.disk c.args.files.now) c.args.pipes.now c.args.log.now c.args.writer.now.batch.items) c.in_err-mark.ensures.goes_on

pub rewrite_all_entries-requires-after_bounds : goal.rewrite_all_entries-requires-after_bounds
rewrite_all_entries-requires-after_bounds g c κs within = (c.requires.0, c.in_ok-mark.ensures.goes_on.ok c.requires.0 c.requires.1)

pub returns-in_err-rewrite_all_entries : goal.returns-in_err-rewrite_all_entries
returns-in_err-rewrite_all_entries g c = record {
  goes_on = gone_refused c.from_residual-in_err-rewrite_all_entries.result c.in_err-rewrite_all_entries.field-0.0 c.from_residual-in_err-rewrite_all_entries.ensures.1
      (gone_more tt (not_yet (g.F.FileSystem.disk c.args.files.now) c.args.pipes.now c.args.log.now c.args.writer.now.batch.items) c.in_ok-mark.ensures.goes_on) c.in_err-rewrite_all_entries.ensures.goes_on;
  later = no_more_then c.in_ok-mark.ensures.later c.in_err-rewrite_all_entries.ensures.later;
  cause = refused_then c.in_ok-mark.ensures.later (g.F.FileSystem.meter c.rewrite_all_entries.new.files) c.from_residual-in_err-rewrite_all_entries.result c.in_err-rewrite_all_entries.field-0.0 c.from_residual-in_err-rewrite_all_entries.ensures.1 c.in_err-rewrite_all_entries.ensures.cause;
}

pub rewrite_all_keys-requires-after_bounds : goal.rewrite_all_keys-requires-after_bounds
rewrite_all_keys-requires-after_bounds g c κs within = (c.requires.0, c.in_ok-rewrite_all_entries.ensures.goes_on.ok c.requires.0 (c.in_ok-mark.ensures.goes_on.ok c.requires.0 c.requires.1))

pub returns : goal.returns
returns g c = record {
  goes_on = gone_then c.rewrite_all_keys.result
      (gone_more tt (gone_more tt (not_yet (g.F.FileSystem.disk c.args.files.now) c.args.pipes.now c.args.log.now c.args.writer.now.batch.items) c.in_ok-mark.ensures.goes_on) c.in_ok-rewrite_all_entries.ensures.goes_on)
      c.rewrite_all_keys.ensures.goes_on;
  later = no_more_then c.in_ok-mark.ensures.later (no_more_then c.in_ok-rewrite_all_entries.ensures.later c.rewrite_all_keys.ensures.later);
  cause = cause_then (no_more_then c.in_ok-mark.ensures.later c.in_ok-rewrite_all_entries.ensures.later) (g.F.FileSystem.meter c.rewrite_all_keys.new.files) c.rewrite_all_keys.result c.rewrite_all_keys.ensures.cause;
}
