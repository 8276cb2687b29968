-- A rewriting, and files that go.
use Rattle.std.proofs.Common.{◌≡◌, ◌⊎◌, ℕ, ◌+◌, ◌≤◌, subst, ◌∙◌}
use Rattle.std.specs.Prelude.{IfOk, IfSome}
use Rattle.raft_log_disk.proofs.RefusalLemmas.{no_more_then}
use Rattle.raft_log_pipe.specs.Pipe.{first_of}
use Rattle.raft_log_traces.specs.GroupTraces.{traces_in}
use Rattle.raft_log_cleaner.proofs.Calls.{goes_then}
use Rattle.raft_log_cleaner.proofs.Stood.{err_stands, ok_both, refused_stands}
use Rattle.raft_log_cleaner.proofs.Going.{when_ok}
use Rattle.raft_log_cleaner.proofs.Caused.{cause_then}
use Rattle.raft_log_cleaning.proofs.cleaning.clean_all.Goals as goal

pub purge_append_files-requires-after_bounds : goal.purge_append_files-requires-after_bounds
purge_append_files-requires-after_bounds g c κs within = (c.requires.0, c.in_default.ensures.cleans.ok c.requires.0 c.requires.1)

pub returns-in-Err : goal.returns-in-Err
returns-in-Err g c =
    let d = g.F.FileSystem.disk c.args.files.now in
    let e = g.F.FileSystem.disk c.must_rewrite_append_queue.new.files in
    record {
      cleans = record { ok = λ content can. tt; err = λ content can. c.in-Err.ensures.cleans.err content can };
      both = tt;
      stands = λ content can. refused_stands d e c.args.pipes.now c.must_rewrite_append_queue.new.pipes content (c.in-Err.ensures.cleans.err content can) c.in-Err.ensures.left;
      barrier = tt;
      gone = tt;
      count = tt;
      held = tt;
      later = c.in-Err.ensures.later;
      cause = c.in-Err.ensures.cause;
    }

pub returns : goal.returns
returns g c =
    let d = g.F.FileSystem.disk c.args.files.now in
    let e = g.F.FileSystem.disk c.must_rewrite_append_queue.new.files in
    let f = g.F.FileSystem.disk c.purge_append_files.new.files in
    let p = c.args.pipes.now in
    let q = c.must_rewrite_append_queue.new.pipes in
    let r = c.purge_append_files.new.pipes in
    let rewritten = c.in_default.ensures in
    let went = c.purge_append_files.ensures in
    record {
      cleans = record {
        ok = λ content can. went.cleans.ok content (rewritten.cleans.ok content can);
        err = λ content can. went.cleans.err content (rewritten.cleans.ok content can);
      };
      both = ok_both c.purge_append_files.result d e f p q r rewritten.kept went.both;
      stands = err_stands c.purge_append_files.result d e f p q r c.args.log.now c.must_rewrite_append_queue.new.log rewritten.kept (λ content can. rewritten.cleans.ok content can) went.stands;
      barrier = when_ok c.purge_append_files.result (subst (λ (n : ℕ). IfSome c.args.barrier (λ file. (first_of r.append ≡ n) ⊎ (first_of r.append ≤ file))) rewritten.kept.first went.barrier);
      gone = goes_then c.purge_append_files.result (traces_in c.must_rewrite_append_queue.new.log.traces) c.args.barrier p.append q.append r.append rewritten.kept.first went.gone;
      count = subst (λ (n : ℕ). IfOk c.purge_append_files.result (λ m. n + m ≡ first_of r.append)) rewritten.kept.first went.count;
      held = when_ok c.purge_append_files.result (went.held ∙ rewritten.kept.rewrites);
      later = no_more_then rewritten.later went.later;
      cause = cause_then rewritten.later (g.F.FileSystem.meter c.purge_append_files.new.files) c.purge_append_files.result went.cause;
    }
