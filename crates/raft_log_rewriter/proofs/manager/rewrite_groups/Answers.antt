-- All groups are written, and synced.
use Rattle.std.proofs.Common.{ℕ, List, [], ◌++◌, sym, ap, ◌∙◌}
use Rattle.std.specs.Ordering.{eq_by_cmp, nat_cmp}
use Rattle.std.specs.Set.{is_member}
use Rattle.raft_log_disk.proofs.RefusalLemmas.{no_more_same, no_more_then}
use Rattle.raft_log_files.specs.declared.error.Error.TheVariants.{Memory}
use Rattle.raft_log_memtables.specs.Content.{Content}
use Rattle.raft_log_memtables.specs.MemTables.{content_in}
use Rattle.raft_log_blocks.proofs.HeldLemmas.{then_as_before}
use Rattle.raft_log_cleaner.proofs.Chunks.{are_there}
use Rattle.raft_log_cleaner.proofs.Going.{none_ok, still_as_before, when_err}
use Rattle.raft_log_cleaner.proofs.Keeping.{err_then, ok_then, pipes_then, pipes_then_left, same_pipes}
use Rattle.raft_log_cleaner.proofs.Caused.{cause_then, refused, refused_then}
use Rattle.raft_log_rewriter.specs.Parts.{unended_of}
use Rattle.raft_log_rewriter.specs.Parts.Stage.{between}
use Rattle.raft_log_rewriter.specs.Rewriting.{IsRewriting, at}
use Rattle.raft_log_rewriter.specs.Standing.{Stands}
use Rattle.raft_log_rewriter.proofs.Calls.{has_rewritten, rewriting_begun}
use Rattle.raft_log_rewriter.proofs.Recording.{as_cleaning, stands_leave, stands_left}
use Rattle.raft_log_rewriter.proofs.Whole.{ended_whole}
use Rattle.raft_log_rewriter.proofs.manager.rewrite_groups.Goals as goal

pub returns-in_err-groups : goal.returns-in_err-groups
returns-in_err-groups g c =
    let d = g.F.FileSystem.disk c.args.files.now in
    let p = c.args.pipes.now in
    record {
      writes = λ next. record {
        ok = λ content s. none_ok _ _ c.from_residual.result c.from_residual.ensures.1;
        err = λ content s. when_err c.from_residual.result (stands_leave d p c.args.log.now next [] content s);
        append = still_as_before p.append d;
        kept = none_ok _ _ c.from_residual.result c.from_residual.ensures.1;
        left = λ content s. when_err c.from_residual.result (stands_left d d p p c.args.log.now next [] content s (same_pipes d p));
      };
      later = no_more_same _ _;
      cause = refused (g.F.FileSystem.meter c.args.files.now) (g.F.FileSystem.meter c.args.files.now) c.from_residual.result Memory c.from_residual.ensures.1 tt;
    }

pub rewrite_each-requires-clause-rewriting : goal.rewrite_each-requires-clause-rewriting
rewrite_each-requires-clause-rewriting g c κs within = record {
  next = c.requires.0;
  done = [];
  content = c.requires.1;
  state = rewriting_begun (g.F.FileSystem.disk c.args.files.now) c.args.pipes.now c.args.log.now c.new-writer.result c.requires.0 c.requires.1 c.new-writer.ensures.batch c.new-writer.ensures.group c.requires.2;
}

pub returns-in_err-rewrite_each : goal.returns-in_err-rewrite_each
returns-in_err-rewrite_each g c =
    let d = g.F.FileSystem.disk c.args.files.now in
    let p = c.args.pipes.now in
    let each = c.in_err-rewrite_each.ensures.goes_on in
    let begun = λ (next : ℕ). λ (content : Content (List ℕ)). λ (s : Stands d p c.args.log.now next [] content). rewriting_begun d p c.args.log.now c.new-writer.result next content c.new-writer.ensures.batch c.new-writer.ensures.group s in
    record {
      writes = λ next. record {
        ok = λ content s. none_ok _ _ c.from_residual-in_err-rewrite_each.result c.from_residual-in_err-rewrite_each.ensures.1;
        err = λ content s. when_err c.from_residual-in_err-rewrite_each.result (each.err next [] content (begun next content s));
        append = each.append;
        kept = none_ok _ _ c.from_residual-in_err-rewrite_each.result c.from_residual-in_err-rewrite_each.ensures.1;
        left = λ content s. when_err c.from_residual-in_err-rewrite_each.result (each.left next [] content (begun next content s));
      };
      later = c.in_err-rewrite_each.ensures.later;
      cause = refused (g.F.FileSystem.meter c.args.files.now) (g.F.FileSystem.meter c.rewrite_each.new.files) c.from_residual-in_err-rewrite_each.result c.in_err-rewrite_each.field-0.0 c.from_residual-in_err-rewrite_each.ensures.1 c.in_err-rewrite_each.ensures.cause;
    }

pub write_whole-requires-clause-pipes : goal.write_whole-requires-clause-pipes
write_whole-requires-clause-pipes g c κs within =
    let begun = rewriting_begun (g.F.FileSystem.disk c.args.files.now) c.args.pipes.now c.args.log.now c.new-writer.result c.requires.0 c.requires.1 c.new-writer.ensures.batch c.new-writer.ensures.group c.requires.2 in
    (c.in_ok-rewrite_each.ensures.goes_on.ok c.requires.0 [] c.requires.1 begun).stands.pipes

pub returns-in_err-write_whole : goal.returns-in_err-write_whole
returns-in_err-write_whole g c =
    let d = g.F.FileSystem.disk c.args.files.now in
    let e = g.F.FileSystem.disk c.rewrite_each.new.files in
    let f = g.F.FileSystem.disk c.write_whole.new.files in
    let p = c.args.pipes.now in
    let q = c.rewrite_each.new.pipes in
    let r = c.write_whole.new.pipes in
    let each = c.in_ok-rewrite_each.ensures.goes_on in
    let whole = c.in_err-write_whole.ensures.goes_on in
    let begun = λ (next : ℕ). λ (content : Content (List ℕ)). λ (s : Stands d p c.args.log.now next [] content). rewriting_begun d p c.args.log.now c.new-writer.result next content c.new-writer.ensures.batch c.new-writer.ensures.group s in
    record {
      writes = λ next. record {
        ok = λ content s. none_ok _ _ c.from_residual-in_err-write_whole.result c.from_residual-in_err-write_whole.ensures.1;
        err = λ content s. when_err c.from_residual-in_err-write_whole.result (whole.err next c.deref.result.now content (each.ok next [] content (begun next content s)));
        append = then_as_before p.append q.append r.append d e f each.append whole.append;
        kept = none_ok _ _ c.from_residual-in_err-write_whole.result c.from_residual-in_err-write_whole.ensures.1;
        left = λ content s. when_err c.from_residual-in_err-write_whole.result (pipes_then_left d e f p q r each.kept (whole.left next c.deref.result.now content (each.ok next [] content (begun next content s))));
      };
      later = no_more_then c.in_ok-rewrite_each.ensures.later c.in_err-write_whole.ensures.later;
      cause = refused_then c.in_ok-rewrite_each.ensures.later (g.F.FileSystem.meter c.write_whole.new.files) c.from_residual-in_err-write_whole.result c.in_err-write_whole.field-0.0 c.from_residual-in_err-write_whole.ensures.1 c.in_err-write_whole.ensures.cause;
    }

pub sync_rewrites-requires-after_bounds : goal.sync_rewrites-requires-after_bounds
sync_rewrites-requires-after_bounds g c κs within =
    let begun = rewriting_begun (g.F.FileSystem.disk c.args.files.now) c.args.pipes.now c.args.log.now c.new-writer.result c.requires.0 c.requires.1 c.new-writer.ensures.batch c.new-writer.ensures.group c.requires.2 in
    (c.in_ok-write_whole.ensures.goes_on.ok c.requires.0 c.deref.result.now c.requires.1 (c.in_ok-rewrite_each.ensures.goes_on.ok c.requires.0 [] c.requires.1 begun)).stands.pipes

pub returns : goal.returns
returns g c =
    let d = g.F.FileSystem.disk c.args.files.now in
    let e = g.F.FileSystem.disk c.rewrite_each.new.files in
    let f = g.F.FileSystem.disk c.write_whole.new.files in
    let h = g.F.FileSystem.disk c.sync_rewrites.new.files in
    let p = c.args.pipes.now in
    let q = c.rewrite_each.new.pipes in
    let r = c.write_whole.new.pipes in
    let t = c.sync_rewrites.new.pipes in
    let log = c.write_whole.new.log in
    let w = c.write_whole.new.self in
    let groups = c.deref.result.now in
    let each = c.in_ok-rewrite_each.ensures.goes_on in
    let whole = c.in_ok-write_whole.ensures.goes_on in
    let syncs = c.sync_rewrites.ensures.syncs in
    let last = λ (next : ℕ). λ (content : Content (List ℕ)). λ (s : Stands d p c.args.log.now next [] content).
    whole.ok next groups content (each.ok next [] content (rewriting_begun d p c.args.log.now c.new-writer.result next content c.new-writer.ensures.batch c.new-writer.ensures.group s)) in
    record {
      writes = λ next. record {
        ok = λ content s.
            let x : IsRewriting f r log w next (at between groups) content = last next content s in
            has_rewritten c.sync_rewrites.result h t log next (x.ws ++ unended_of x.open_group) content
            (ended_whole f r log w next groups content (λ group. (content_in c.args.log.now.tables group).there) x c.in_ok-write_whole.ensures.emptied c.in_ok-write_whole.ensures.group
            (are_there d p c.args.log.now [] content (as_cleaning d p c.args.log.now next [] content s))
            (λ group. c.in_ok-groups.ensures.exactly group ∙ ap (λ (l : List ℕ). is_member (eq_by_cmp nat_cmp) l group) (sym c.deref.ensures.value)))
            (syncs.ok next (x.ws ++ unended_of x.open_group) content x.stands);
        err = λ content s. let x : IsRewriting f r log w next (at between groups) content = last next content s in syncs.err next (x.ws ++ unended_of x.open_group) content x.stands;
        append = then_as_before p.append r.append t.append d f h (then_as_before p.append q.append r.append d e f each.append whole.append) syncs.append;
        kept = ok_then c.sync_rewrites.result d f h p r t (pipes_then d e f p q r each.kept whole.kept) syncs.kept;
        left = λ content s.
            let x : IsRewriting f r log w next (at between groups) content = last next content s in
            err_then c.sync_rewrites.result d f h p r t (pipes_then d e f p q r each.kept whole.kept) (syncs.left next (x.ws ++ unended_of x.open_group) content x.stands);
      };
      later = no_more_then (no_more_then c.in_ok-rewrite_each.ensures.later c.in_ok-write_whole.ensures.later) c.sync_rewrites.ensures.later;
      cause = cause_then (no_more_then c.in_ok-rewrite_each.ensures.later c.in_ok-write_whole.ensures.later) (g.F.FileSystem.meter c.sync_rewrites.new.files) c.sync_rewrites.result c.sync_rewrites.ensures.cause;
    }
