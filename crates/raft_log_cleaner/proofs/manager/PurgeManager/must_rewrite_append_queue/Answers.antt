-- The last file, the groups, and what is written of them.
use Rattle.raft_log_files.specs.declared.error.Error.TheVariants.{Memory}
use Rattle.raft_log_disk.proofs.RefusalLemmas.{no_more_then}
use Rattle.raft_log_cleaner.proofs.Caused.{cause_then, refused}
use Rattle.raft_log_cleaner.proofs.Calls.{cleans_refused, cleans_then}
use Rattle.raft_log_cleaner.proofs.Going.{none_ok, when_err}
use Rattle.raft_log_cleaner.proofs.Ends.{can_be_left, can_leave}
use Rattle.raft_log_cleaner.proofs.Keeping.{err_then, ok_then}
use Rattle.raft_log_cleaner.proofs.manager.PurgeManager.must_rewrite_append_queue.Goals as goal

pub returns-in_err-last : goal.returns-in_err-last
returns-in_err-last g c = record {
  cleans = cleans_refused _ c.from_residual.result c.in_err-last.field-0.0 c.from_residual.ensures.1 c.in_err-last.ensures.cleans;
  kept = none_ok _ _ c.from_residual.result c.from_residual.ensures.1;
  left = when_err c.from_residual.result c.in_err-last.ensures.left;
  later = c.in_err-last.ensures.later;
  cause = refused (g.F.FileSystem.meter c.args.files.now) (g.F.FileSystem.meter c.last_file.new.files) c.from_residual.result c.in_err-last.field-0.0 c.from_residual.ensures.1 c.in_err-last.ensures.cause;
}

pub returns-in_err-groups : goal.returns-in_err-groups
returns-in_err-groups g c =
    let d = g.F.FileSystem.disk c.args.files.now in
    let e = g.F.FileSystem.disk c.last_file.new.files in
    let p = c.args.pipes.now in
    let q = c.last_file.new.pipes in
    let begun = c.in_ok-last.ensures in
    record {
      cleans = record {
        ok = λ content can. none_ok _ _ c.from_residual-in_err-groups.result c.from_residual-in_err-groups.ensures.1;
        err = λ content can. when_err c.from_residual-in_err-groups.result (can_leave e q c.args.log.now content (begun.cleans.ok content can));
      };
      kept = none_ok _ _ c.from_residual-in_err-groups.result c.from_residual-in_err-groups.ensures.1;
      left = when_err c.from_residual-in_err-groups.result (can_be_left d e p q c.args.log.now c.requires.0 (begun.cleans.ok c.requires.0 c.requires.1) begun.kept);
      later = begun.later;
      cause = refused (g.F.FileSystem.meter c.args.files.now) (g.F.FileSystem.meter c.last_file.new.files) c.from_residual-in_err-groups.result Memory c.from_residual-in_err-groups.ensures.1 tt;
    }

pub clean_groups-requires-after_bounds : goal.clean_groups-requires-after_bounds
clean_groups-requires-after_bounds g c κs within = (c.requires.0, c.in_ok-last.ensures.cleans.ok c.requires.0 c.requires.1)

pub returns : goal.returns
returns g c =
    let d = g.F.FileSystem.disk c.args.files.now in
    let e = g.F.FileSystem.disk c.last_file.new.files in
    let f = g.F.FileSystem.disk c.clean_groups.new.files in
    let p = c.args.pipes.now in
    let q = c.last_file.new.pipes in
    let r = c.clean_groups.new.pipes in
    record {
      cleans = cleans_then c.in_ok-last.last c.clean_groups.result c.in_ok-last.ensures.cleans c.clean_groups.ensures.cleans;
      kept = ok_then c.clean_groups.result d e f p q r c.in_ok-last.ensures.kept c.clean_groups.ensures.kept;
      left = err_then c.clean_groups.result d e f p q r c.in_ok-last.ensures.kept c.clean_groups.ensures.left;
      later = no_more_then c.in_ok-last.ensures.later c.clean_groups.ensures.later;
      cause = cause_then c.in_ok-last.ensures.later (g.F.FileSystem.meter c.clean_groups.new.files) c.clean_groups.result c.clean_groups.ensures.cause;
    }
