-- A file that is named, or a new one that is begun.
use Rattle.std.proofs.Common.{[], ap}
use Rattle.raft_log_cleaner.proofs.Caused.{call_cause, refused}
use Rattle.raft_log_cleaner.proofs.Going.{none_ok, when_err}
use Rattle.raft_log_pipe.specs.Pipe.{first_of}
use Rattle.raft_log_pipe.proofs.FirstLemmas.{begun_first}
use Rattle.raft_log_cleaner.proofs.Gone.{append_begun, not_begun}
use Rattle.raft_log_cleaner.proofs.Keeping.{pipe_as_before, pipe_left, pipe_refused}
use Rattle.raft_log_cleaner.proofs.manager.last_file.Goals as goal

pub returns-in_err-rotate : goal.returns-in_err-rotate
returns-in_err-rotate g c =
    let d = g.F.FileSystem.disk c.args.files.now in
    let e = g.F.FileSystem.disk c.rotate.new.files in
    let p = c.args.pipes.now in
    let q = c.rotate.new.self in
    let other = c.in_err-rotate.ensures.other in
    let call = c.in_err-rotate.ensures.call in
    let log = c.requires.1 in
    record {
      cleans = record {
        ok = λ content can. none_ok _ _ c.from_residual.result c.from_residual.ensures.1;
        err = λ content can. when_err c.from_residual.result (not_begun d e p q c.args.log.now content can other (call.err can.appends [] can.append));
      };
      kept = none_ok _ _ c.from_residual.result c.from_residual.ensures.1;
      left = when_err c.from_residual.result (record {
        append = pipe_refused p.append q.append d e log.appends [] log.append c.in_err-rotate.ensures.set.0 call.paths call.nearly call.torn;
        rewrite = pipe_left p.rewrite q.rewrite d e log.rewrites [] (other.holds log.rewrites [] log.rewrite) (pipe_as_before p.rewrite q.rewrite d e other);
      });
      later = c.in_err-rotate.ensures.later;
      cause =
          let old = g.F.FileSystem.meter c.args.files.now in
          let new = g.F.FileSystem.meter c.rotate.new.files in
          refused old new c.from_residual.result c.in_err-rotate.field-0.0 c.from_residual.ensures.1 (call_cause old new _ _ c.in_err-rotate.field-0.0 c.in_err-rotate.ensures.cause);
    }

pub returns : goal.returns
returns g c =
    let d = g.F.FileSystem.disk c.args.files.now in
    let e = g.F.FileSystem.disk c.rotate.new.files in
    let p = c.args.pipes.now in
    let q = c.rotate.new.self in
    let other = c.in_ok-rotate.ensures.other in
    let call = c.in_ok-rotate.ensures.call in
    record {
      cleans = record {
        ok = λ content can. append_begun d e p q c.args.log.now content can (c.in_ok-rotate.ensures.both can.pipes) other call.next (call.ok can.appends [] can.append);
        err = λ content can. tt;
      };
      kept = record {
        append = record { set = c.in_ok-rotate.ensures.set.0; paths = call.paths; alone = call.alone };
        rewrite = pipe_as_before p.rewrite q.rewrite d e other;
        first = begun_first p.append q.append call.next;
        rewrites = ap first_of other.same;
      };
      left = tt;
      later = c.in_ok-rotate.ensures.later;
      cause = tt;
    }
