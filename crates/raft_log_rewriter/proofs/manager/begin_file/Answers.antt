-- A file that is begun.
use Rattle.std.proofs.Common.{[], ap}
use Rattle.raft_log_pipe.specs.Pipe.{first_of}
use Rattle.raft_log_pipe.proofs.FirstLemmas.{begun_first}
use Rattle.raft_log_cleaner.proofs.Going.{none_ok, when_err}
use Rattle.raft_log_cleaner.proofs.Keeping.{pipe_as_before, pipe_left, pipe_refused}
use Rattle.raft_log_cleaner.proofs.Caused.{call_cause, refused}
use Rattle.raft_log_rewriter.proofs.Beginning.{file_begun, file_not_begun}
use Rattle.raft_log_rewriter.proofs.manager.begin_file.Goals as goal

pub returns-in_err-rotate-clause-begins : goal.returns-in_err-rotate-clause-begins
returns-in_err-rotate-clause-begins g c =
    let d = g.F.FileSystem.disk c.args.files.now in
    let e = g.F.FileSystem.disk c.rotate.new.files in
    let p = c.args.pipes.now in
    let q = c.rotate.new.self in
    let other = c.in_err-rotate.ensures.other in
    let call = c.in_err-rotate.ensures.call in
    record {
      ok = λ content can. none_ok _ _ c.from_residual.result c.from_residual.ensures.1;
      err = λ content can. when_err c.from_residual.result (file_not_begun d e p q c.args.log.now content can other (call.err can.can.rewrites [] can.can.rewrite));
      append = other;
      kept = none_ok _ _ c.from_residual.result c.from_residual.ensures.1;
      left = λ content can. when_err c.from_residual.result (record {
        append = pipe_left p.append q.append d e can.can.appends [] (other.holds can.can.appends [] can.can.append) (pipe_as_before p.append q.append d e other);
        rewrite = pipe_refused p.rewrite q.rewrite d e can.can.rewrites [] can.can.rewrite c.in_err-rotate.ensures.set.1 call.paths call.nearly call.torn;
      });
    }

pub returns-clause-begins : goal.returns-clause-begins
returns-clause-begins g c =
    let d = g.F.FileSystem.disk c.args.files.now in
    let e = g.F.FileSystem.disk c.rotate.new.files in
    let p = c.args.pipes.now in
    let q = c.rotate.new.self in
    let other = c.in_ok-rotate.ensures.other in
    let call = c.in_ok-rotate.ensures.call in
    record {
      ok = λ content can. file_begun d e p q c.args.log.now content can other (c.in_ok-rotate.ensures.both can.can.pipes) call.next (call.ok can.can.rewrites [] can.can.rewrite);
      err = λ content can. tt;
      append = other;
      kept = record {
        append = pipe_as_before p.append q.append d e other;
        rewrite = record { set = c.in_ok-rotate.ensures.set.1; paths = call.paths; alone = call.alone };
        first = ap first_of other.same;
        rewrites = begun_first p.rewrite q.rewrite call.next;
      };
      left = λ content can. tt;
    }

pub returns-in_err-rotate-clause-cause : goal.returns-in_err-rotate-clause-cause
returns-in_err-rotate-clause-cause g c =
    let old = g.F.FileSystem.meter c.args.files.now in
    let new = g.F.FileSystem.meter c.rotate.new.files in
    refused old new c.from_residual.result c.in_err-rotate.field-0.0 c.from_residual.ensures.1 (call_cause old new _ _ c.in_err-rotate.field-0.0 c.in_err-rotate.ensures.cause)
