-- A cleaning from its beginning to its end.
use Rattle.std.proofs.Common.{List, ℕ}
use Rattle.raft_log_disk.proofs.RefusalLemmas.{no_more_then}
use Rattle.raft_log_memtables.specs.Content.{Content}
use Rattle.raft_log_blocks.proofs.HeldLemmas.{then_as_before}
use Rattle.raft_log_cleaner.specs.Cleaning.{CanClean}
use Rattle.raft_log_cleaner.proofs.Caused.{cause_then, refused}
use Rattle.raft_log_cleaner.proofs.Ends.{begins_with}
use Rattle.raft_log_cleaner.proofs.Going.{none_ok, when_err}
use Rattle.raft_log_cleaner.proofs.Keeping.{err_then, ok_then}
use Rattle.raft_log_cleaner.proofs.manager.rewrite_groups.Goals as goal

pub write_each-requires-after_bounds : goal.write_each-requires-after_bounds
write_each-requires-after_bounds g c κs within =
    (c.requires.0, begins_with (g.F.FileSystem.disk c.args.files.now) c.args.pipes.now c.args.log.now c.new-writer.result.batch.items c.requires.0 c.new-writer.ensures c.requires.1)

pub returns-in_err-write_each : goal.returns-in_err-write_each
returns-in_err-write_each g c =
    let begun = λ (content : Content (List ℕ)). λ (can : CanClean (g.F.FileSystem.disk c.args.files.now) c.args.pipes.now c.args.log.now content). begins_with (g.F.FileSystem.disk c.args.files.now) c.args.pipes.now c.args.log.now c.new-writer.result.batch.items content c.new-writer.ensures can in
    record {
      cleans = record {
        ok = λ content can. none_ok _ _ c.from_residual.result c.from_residual.ensures.1;
        err = λ content can. when_err c.from_residual.result (c.in_err-write_each.ensures.goes_on.err content (begun content can));
      };
      append = c.in_err-write_each.ensures.goes_on.append;
      kept = none_ok _ _ c.from_residual.result c.from_residual.ensures.1;
      left = when_err c.from_residual.result (c.in_err-write_each.ensures.goes_on.left c.requires.0 (begun c.requires.0 c.requires.1));
      later = c.in_err-write_each.ensures.later;
      cause = refused (g.F.FileSystem.meter c.args.files.now) (g.F.FileSystem.meter c.write_each.new.files) c.from_residual.result c.in_err-write_each.field-0.0 c.from_residual.ensures.1 c.in_err-write_each.ensures.cause;
    }

pub finish-requires-after_bounds : goal.finish-requires-after_bounds
finish-requires-after_bounds g c κs within =
    (c.requires.0, c.in_ok-write_each.ensures.goes_on.ok c.requires.0 (begins_with (g.F.FileSystem.disk c.args.files.now) c.args.pipes.now c.args.log.now c.new-writer.result.batch.items c.requires.0 c.new-writer.ensures c.requires.1))

pub returns : goal.returns
returns g c =
    let d = g.F.FileSystem.disk c.args.files.now in
    let e = g.F.FileSystem.disk c.write_each.new.files in
    let f = g.F.FileSystem.disk c.finish.new.files in
    let p = c.args.pipes.now in
    let q = c.write_each.new.pipes in
    let r = c.finish.new.pipes in
    let goes_on = c.in_ok-write_each.ensures.goes_on in
    let finishes = c.finish.ensures.finishes in
    let begun = λ (content : Content (List ℕ)). λ (can : CanClean d p c.args.log.now content). begins_with d p c.args.log.now c.new-writer.result.batch.items content c.new-writer.ensures can in
    record {
      cleans = record {
        ok = λ content can. finishes.ok content (goes_on.ok content (begun content can));
        err = λ content can. finishes.err content (goes_on.ok content (begun content can));
      };
      append = then_as_before p.append q.append r.append d e f goes_on.append finishes.append;
      kept = ok_then c.finish.result d e f p q r goes_on.kept finishes.kept;
      left = err_then c.finish.result d e f p q r goes_on.kept (finishes.left c.requires.0 (goes_on.ok c.requires.0 (begun c.requires.0 c.requires.1)));
      later = no_more_then c.in_ok-write_each.ensures.later c.finish.ensures.later;
      cause = cause_then c.in_ok-write_each.ensures.later (g.F.FileSystem.meter c.finish.new.files) c.finish.result c.finish.ensures.cause;
    }
