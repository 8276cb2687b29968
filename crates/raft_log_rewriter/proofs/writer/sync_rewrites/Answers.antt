-- A sync of the rewrite queue.
use Rattle.std.proofs.Common.{[], ◌++◌, sym, ◌∙◌, ap}
use Rattle.raft_log_pipe.specs.Pipe.{first_of}
use Rattle.raft_log_pipe.proofs.FirstLemmas.{same_first}
use Rattle.raft_log_cleaner.proofs.Going.{none_ok, when_err}
use Rattle.raft_log_cleaner.proofs.Keeping.{pipe_as_before, pipe_left, pipe_on}
use Rattle.raft_log_cleaner.proofs.Caused.{call_cause, refused}
use Rattle.raft_log_rewriter.proofs.Recording as recording
use Rattle.raft_log_rewriter.proofs.writer.sync_rewrites.Goals as goal

pub returns-in_err-sync-clause-syncs : goal.returns-in_err-sync-clause-syncs
returns-in_err-sync-clause-syncs g c =
    let d = g.F.FileSystem.disk c.args.files.now in
    let e = g.F.FileSystem.disk c.sync.new.files in
    let p = c.args.pipes.now in
    let q = c.sync.new.self in
    let other = c.in_err-sync.ensures.other in
    let call = c.in_err-sync.ensures.call in
    record {
      ok = λ next ws content s. none_ok _ _ c.from_residual.result c.from_residual.ensures.1;
      err = λ next ws content s. when_err c.from_residual.result
          (recording.sync_refused d e c.args.pipes.now c.sync.new.self c.args.log.now next ws content s other (c.in_err-sync.ensures.call.err (s.old ++ s.new) s.fresh s.rewrite));
      append = other;
      kept = none_ok _ _ c.from_residual.result c.from_residual.ensures.1;
      left = λ next ws content s. when_err c.from_residual.result (record {
        append = pipe_left p.append q.append d e s.appends [] (other.holds s.appends [] s.append) (pipe_as_before p.append q.append d e other);
        rewrite = pipe_left p.rewrite q.rewrite d e (s.old ++ s.new) s.fresh (call.err (s.old ++ s.new) s.fresh s.rewrite)
            (pipe_on p.rewrite q.rewrite d e (call.same.0, call.same.1, q.rewrites ∙ sym p.rewrites) c.in_err-sync.ensures.set.1 call.paths call.names);
      });
    }

pub returns-clause-syncs : goal.returns-clause-syncs
returns-clause-syncs g c =
    let d = g.F.FileSystem.disk c.args.files.now in
    let e = g.F.FileSystem.disk c.sync.new.files in
    let p = c.args.pipes.now in
    let q = c.sync.new.self in
    let other = c.in_ok-sync.ensures.other in
    let call = c.in_ok-sync.ensures.call in
    record {
      ok = λ next ws content s. recording.all_synced d e c.args.pipes.now c.sync.new.self c.args.log.now next ws content s other call.pipe call.same (call.ok (s.old ++ s.new) s.fresh s.rewrite);
      err = λ next ws content s. tt;
      append = other;
      kept = record {
        append = pipe_as_before p.append q.append d e other;
        rewrite = pipe_on p.rewrite q.rewrite d e (call.same.0, call.same.1, q.rewrites ∙ sym p.rewrites) c.in_ok-sync.ensures.set.1 call.paths call.names;
        first = ap first_of other.same;
        rewrites = same_first p.rewrite q.rewrite call.same;
      };
      left = λ next ws content s. tt;
    }

pub returns-in_err-sync-clause-cause : goal.returns-in_err-sync-clause-cause
returns-in_err-sync-clause-cause g c =
    let old = g.F.FileSystem.meter c.args.files.now in
    let new = g.F.FileSystem.meter c.sync.new.files in
    refused old new c.from_residual.result c.in_err-sync.field-0.0 c.from_residual.ensures.1 (call_cause old new ⊥ ⊥ c.in_err-sync.field-0.0 c.in_err-sync.ensures.cause)
