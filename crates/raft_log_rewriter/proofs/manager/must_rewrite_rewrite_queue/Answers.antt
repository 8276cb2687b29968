-- A file is begun, groups are written, and old files go.
use Rattle.std.proofs.Common.{ℕ, ◌+◌, List, sym, subst, ◌∙◌}
use Rattle.raft_log_disk.proofs.RefusalLemmas.{no_more_then}
use Rattle.raft_log_memtables.specs.Content.{Content}
use Rattle.raft_log_cleaner.proofs.Going.{none_ok, when_err}
use Rattle.raft_log_cleaner.proofs.Keeping.{ok_appends, pipes_then, pipes_then_left}
use Rattle.raft_log_cleaner.proofs.Caused.{cause_then, refused, refused_then}
use Rattle.raft_log_rewriter.specs.Standing.{CanRewrite, HasRewritten}
use Rattle.raft_log_cleaner.proofs.Stood.{refused_stands}
use Rattle.raft_log_rewriter.proofs.Calls.{err_stands, ok_is}
use Rattle.raft_log_rewriter.proofs.manager.must_rewrite_rewrite_queue.Goals as goal

pub returns-in_err-next : goal.returns-in_err-next
returns-in_err-next g c =
    let d = g.F.FileSystem.disk c.args.files.now in
    let e = g.F.FileSystem.disk c.begin_file.new.files in
    let p = c.args.pipes.now in
    let q = c.begin_file.new.pipes in
    let begins = c.in_err-next.ensures.begins in
    record {
      rewrites = record {
        ok = λ content can. none_ok _ _ c.from_residual.result c.from_residual.ensures.1;
        err = λ content can. when_err c.from_residual.result (begins.err content can);
      };
      gone = none_ok _ _ c.from_residual.result c.from_residual.ensures.1;
      append = begins.append.same;
      kept = none_ok _ _ c.from_residual.result c.from_residual.ensures.1;
      left = when_err c.from_residual.result (λ content can. refused_stands d e p q content (begins.err content can) (begins.left content can));
      later = c.in_err-next.ensures.later;
      cause = refused (g.F.FileSystem.meter c.args.files.now) (g.F.FileSystem.meter c.begin_file.new.files) c.from_residual.result c.in_err-next.field-0.0 c.from_residual.ensures.1 c.in_err-next.ensures.cause;
    }

pub rewrite_groups-requires-after_bounds : goal.rewrite_groups-requires-after_bounds
rewrite_groups-requires-after_bounds g c κs within = (c.args.pipes.now.rewrite.active.seq + 1, c.requires.0, c.in_ok-next.ensures.begins.ok c.requires.0 c.requires.1)

pub returns-in_err-rewrite_groups : goal.returns-in_err-rewrite_groups
returns-in_err-rewrite_groups g c =
    let d = g.F.FileSystem.disk c.args.files.now in
    let e = g.F.FileSystem.disk c.begin_file.new.files in
    let f = g.F.FileSystem.disk c.rewrite_groups.new.files in
    let p = c.args.pipes.now in
    let q = c.begin_file.new.pipes in
    let r = c.rewrite_groups.new.pipes in
    let begins = c.in_ok-next.ensures.begins in
    let writes = c.in_err-rewrite_groups.ensures.writes (p.rewrite.active.seq + 1) in
    record {
      rewrites = record {
        ok = λ content can. none_ok _ _ c.from_residual-in_err-rewrite_groups.result c.from_residual-in_err-rewrite_groups.ensures.1;
        err = λ content can. when_err c.from_residual-in_err-rewrite_groups.result (writes.err content (begins.ok content can));
      };
      gone = none_ok _ _ c.from_residual-in_err-rewrite_groups.result c.from_residual-in_err-rewrite_groups.ensures.1;
      append = writes.append.same ∙ begins.append.same;
      kept = none_ok _ _ c.from_residual-in_err-rewrite_groups.result c.from_residual-in_err-rewrite_groups.ensures.1;
      left = when_err c.from_residual-in_err-rewrite_groups.result
          (λ content can. refused_stands d f p r content (writes.err content (begins.ok content can)) (pipes_then_left d e f p q r begins.kept (writes.left content (begins.ok content can))));
      later = no_more_then c.in_ok-next.ensures.later c.in_err-rewrite_groups.ensures.later;
      cause = refused_then c.in_ok-next.ensures.later (g.F.FileSystem.meter c.rewrite_groups.new.files) c.from_residual-in_err-rewrite_groups.result c.in_err-rewrite_groups.field-0.0 c.from_residual-in_err-rewrite_groups.ensures.1 c.in_err-rewrite_groups.ensures.cause;
    }

pub let_old_go-requires-after_bounds : goal.let_old_go-requires-after_bounds
let_old_go-requires-after_bounds g c κs within =
    let f = g.F.FileSystem.disk c.rewrite_groups.new.files in
    let writes = c.in_ok-rewrite_groups.ensures.writes (c.args.pipes.now.rewrite.active.seq + 1) in (
      c.requires.0,
      subst (λ (n : ℕ). HasRewritten f c.rewrite_groups.new.pipes c.rewrite_groups.new.log n c.requires.0) (sym c.in_ok-next.ensures.next) (writes.ok c.requires.0 (c.in_ok-next.ensures.begins.ok c.requires.0 c.requires.1)),
    )

pub returns : goal.returns
returns g c =
    let d = g.F.FileSystem.disk c.args.files.now in
    let e = g.F.FileSystem.disk c.begin_file.new.files in
    let f = g.F.FileSystem.disk c.rewrite_groups.new.files in
    let h = g.F.FileSystem.disk c.let_old_go.new.files in
    let p = c.args.pipes.now in
    let q = c.begin_file.new.pipes in
    let r = c.rewrite_groups.new.pipes in
    let t = c.let_old_go.new.pipes in
    let begins = c.in_ok-next.ensures.begins in
    let writes = c.in_ok-rewrite_groups.ensures.writes (p.rewrite.active.seq + 1) in
    let goes = c.let_old_go.ensures.lets_go in
    let all = λ (content : Content (List ℕ)). λ (can : CanRewrite d p c.args.log.now content).
    subst (λ (n : ℕ). HasRewritten f r c.rewrite_groups.new.log n content) (sym c.in_ok-next.ensures.next) (writes.ok content (begins.ok content can)) in
    record {
      rewrites = record {
        ok = λ content can. goes.ok content (all content can);
        err = λ content can. goes.err content (all content can);
      };
      gone = ok_is c.let_old_go.result _ c.in_ok-next.next (p.rewrite.active.seq + 1) c.in_ok-next.ensures.next c.let_old_go.ensures.gone;
      append = goes.append.same ∙ writes.append.same ∙ begins.append.same;
      kept = ok_appends c.let_old_go.result d f h p r t (pipes_then d e f p q r begins.kept writes.kept) goes.kept;
      left = err_stands c.let_old_go.result d f h p r t c.args.log.now (pipes_then d e f p q r begins.kept writes.kept) (λ content can. goes.left content (all content can));
      later = no_more_then (no_more_then c.in_ok-next.ensures.later c.in_ok-rewrite_groups.ensures.later) c.let_old_go.ensures.later;
      cause = cause_then (no_more_then c.in_ok-next.ensures.later c.in_ok-rewrite_groups.ensures.later) (g.F.FileSystem.meter c.let_old_go.new.files) c.let_old_go.result c.let_old_go.ensures.cause;
    }
