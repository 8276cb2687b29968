-- What is planned is written, and then files go.
use Rattle.std.proofs.Common.{ap, ◌∙◌}
use Rattle.raft_log_disk.proofs.RefusalLemmas.{no_more_then}
use Rattle.raft_log_pipe.specs.Pipe.{first_of}
use Rattle.raft_log_traces.specs.GroupTraces.{traces_in}
use Rattle.raft_log_cleaner.proofs.Caused as caused
use Rattle.raft_log_cleaner.proofs.Caused.{cause_then}
use Rattle.raft_log_cleaner.proofs.Calls.{barrier_same, barrier_then, cleans_refused, cleans_then, goes_then}
use Rattle.raft_log_cleaner.proofs.Going.{none_ok, when_err, when_ok}
use Rattle.raft_log_cleaner.proofs.Stood.{err_stands, ok_both, refused_stands}
use Rattle.raft_log_cleaner.proofs.manager.PurgeManager.clean_planned.Goals as goal

pub returns-in_err-rewrite_groups : goal.returns-in_err-rewrite_groups
returns-in_err-rewrite_groups g c =
    let d = g.F.FileSystem.disk c.args.files.now in
    let e = g.F.FileSystem.disk c.rewrite_groups.new.files in
    let refused = c.in_err-rewrite_groups.ensures in
    record {
      cleans = cleans_refused _ c.from_residual.result c.in_err-rewrite_groups.field-0.0 c.from_residual.ensures.1 refused.cleans;
      barrier = barrier_same c.args.barrier c.args.pipes.now c.rewrite_groups.new.pipes refused.append.same;
      gone = none_ok _ _ c.from_residual.result c.from_residual.ensures.1;
      held = none_ok _ _ c.from_residual.result c.from_residual.ensures.1;
      both = none_ok _ _ c.from_residual.result c.from_residual.ensures.1;
      stands = when_err c.from_residual.result (λ content can. refused_stands d e c.args.pipes.now c.rewrite_groups.new.pipes content (refused.cleans.err content can) refused.left);
      later = refused.later;
      cause = caused.refused (g.F.FileSystem.meter c.args.files.now) (g.F.FileSystem.meter c.rewrite_groups.new.files) c.from_residual.result c.in_err-rewrite_groups.field-0.0 c.from_residual.ensures.1 refused.cause;
    }

pub purge_append_files-requires-after_bounds : goal.purge_append_files-requires-after_bounds
purge_append_files-requires-after_bounds g c κs within = (c.requires.0, c.in_ok-rewrite_groups.ensures.cleans.ok c.requires.0 c.requires.1)

pub returns : goal.returns
returns g c =
    let d = g.F.FileSystem.disk c.args.files.now in
    let e = g.F.FileSystem.disk c.rewrite_groups.new.files in
    let f = g.F.FileSystem.disk c.purge_append_files.new.files in
    let p = c.args.pipes.now in
    let q = c.rewrite_groups.new.pipes in
    let r = c.purge_append_files.new.pipes in
    let one = c.in_ok-rewrite_groups.ensures in
    let went = c.purge_append_files.ensures in
    record {
      cleans = cleans_then tt c.purge_append_files.result one.cleans went.cleans;
      barrier = barrier_then c.args.barrier p q r one.append.same went.barrier;
      gone = goes_then c.purge_append_files.result (traces_in c.rewrite_groups.new.log.traces) c.args.barrier p.append q.append r.append (ap first_of one.append.same) went.gone;
      held = when_ok c.purge_append_files.result (went.held ∙ one.kept.rewrites);
      both = ok_both c.purge_append_files.result d e f p q r one.kept went.both;
      stands = err_stands c.purge_append_files.result d e f p q r c.args.log.now c.rewrite_groups.new.log one.kept (λ content can. one.cleans.ok content can) went.stands;
      later = no_more_then one.later went.later;
      cause = cause_then one.later (g.F.FileSystem.meter c.purge_append_files.new.files) c.purge_append_files.result went.cause;
    }
