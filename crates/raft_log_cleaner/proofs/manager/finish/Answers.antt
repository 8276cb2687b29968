-- The batch is written, and the rewrite queue synced.
use Rattle.std.proofs.Common.{◌≡◌, ap, ◌∙◌, sym, subst}
use Rattle.std.specs.Prelude.{Result, OnOk}
use Rattle.raft_log_disk.proofs.RefusalLemmas.{no_more_then}
use Rattle.raft_log_cleaner.proofs.Caused.{cause_then}
use Rattle.raft_log_cleaner.proofs.Ends.{ends_ok}
use Rattle.raft_log_cleaner.proofs.Going.{gone_more, gone_then, none_ok, not_yet, when_err}
use Rattle.raft_log_cleaner.proofs.manager.finish.Goals as goal

pub returns-in_err-flush-clause-finishes : goal.returns-in_err-flush-clause-finishes
returns-in_err-flush-clause-finishes g c = record {
  ok = λ content s. none_ok _ _ c.from_residual.result c.from_residual.ensures.1;
  err = λ content s. when_err c.from_residual.result (c.in_err-flush.ensures.goes_on.err content s);
  append = c.in_err-flush.ensures.goes_on.append;
  kept = none_ok _ _ c.from_residual.result c.from_residual.ensures.1;
  left = λ content s. when_err c.from_residual.result (c.in_err-flush.ensures.goes_on.left content s);
}

pub sync-requires-after_bounds : goal.sync-requires-after_bounds
sync-requires-after_bounds g c κs within = (c.requires.0, c.in_ok-flush.ensures.goes_on.ok c.requires.0 c.requires.1)

pub returns-clause-finishes : goal.returns-clause-finishes
returns-clause-finishes g c =
    let both = gone_then c.sync.result (gone_more tt (not_yet (g.F.FileSystem.disk c.args.files.now) c.args.pipes.now c.args.log.now c.args.writer.now.batch.items) c.in_ok-flush.ensures.goes_on) c.sync.ensures.goes_on in
    record {
      ok = λ content s. ends_ok c.sync.result (g.F.FileSystem.disk c.sync.new.files) c.sync.new.pipes c.flush.new.log c.flush.new.self.batch.items content c.in_ok-flush.ensures.emptied (c.sync.ensures.synced content (c.in_ok-flush.ensures.goes_on.ok content s));
      err = both.err;
      append = both.append;
      kept = both.kept;
      left = both.left;
    }

pub returns-clause-later : goal.returns-clause-later
returns-clause-later g c = no_more_then c.in_ok-flush.ensures.later c.sync.ensures.later

pub returns-clause-cause : goal.returns-clause-cause
returns-clause-cause g c = cause_then c.in_ok-flush.ensures.later (g.F.FileSystem.meter c.sync.new.files) c.sync.result c.sync.ensures.cause
