-- Old files that go.
use Rattle.std.proofs.Common.{◌≤◌, ℕ, inl, inr, ◌++◌, refl, [], ap, arith}
use Rattle.raft_log_pipe.specs.Blocks.{IsOutOfSpan}
use Rattle.raft_log_pipe.specs.Pipe.{first_of}
use Rattle.raft_log_pipe.specs.declared.pipe.SinglePipe.{SinglePipe}
use Rattle.raft_log_cleaner.proofs.Going.{failed, none_ok, when_err}
use Rattle.raft_log_cleaner.proofs.Keeping.{pipe_as_before}
use Rattle.raft_log_cleaner.proofs.Caused.{going_cause, refused}
use Rattle.raft_log_purge.proofs.CausedLemmas as purge
use Rattle.raft_log_rewriter.proofs.Letting.{files_gone, go_refused, holds_all, rest_leaves}
use Rattle.raft_log_rewriter.proofs.manager.let_old_go.Goals as goal

inside : (p : SinglePipe) (next : ℕ) → (first_of p ≤ next) × (next ≤ p.active.seq) → IsOutOfSpan p next → ⊥
inside p next span (inl before) = absurd (omega (arith, span.0, before))
inside p next span (inr behind) = absurd (omega (arith, span.1, behind))

pub purge_to-requires-clause-pipe : goal.purge_to-requires-clause-pipe
purge_to-requires-clause-pipe g c κs within = c.requires.1.stands.pipes.rewrite

pub returns-in_err-purge_to-clause-lets_go : goal.returns-in_err-purge_to-clause-lets_go
returns-in_err-purge_to-clause-lets_go g c =
    let d = g.F.FileSystem.disk c.args.files.now in
    let e = g.F.FileSystem.disk c.purge_to.new.files in
    let p = c.args.pipes.now in
    let q = c.purge_to.new.self in
    let met = g.met.F.FileSystem g.world.𝓛 g.world.𝓜 g.world.𝓡 ((λ s x. x), (λ x. x), (λ x. x), λ x. x) in
    let other = c.in_err-purge_to.ensures.other in
    let call = c.in_err-purge_to.ensures.call in
    record {
      ok = λ content h. none_ok _ _ c.from_residual.result c.from_residual.ensures.1;
      err = λ content h. when_err c.from_residual.result (rest_leaves d e p q c.args.log.now c.args.next content h other q refl (call.bound.1 h.stands.span.0) (call.holds (h.stands.old ++ h.stands.new) [] (holds_all d e p q c.args.log.now c.args.next content h other)));
      append = other;
      kept = none_ok _ _ c.from_residual.result c.from_residual.ensures.1;
      left = λ content h. when_err c.from_residual.result (go_refused d e p q c.args.log.now c.args.next content h other (met.is_named c.args.files.now) (met.is_named c.purge_to.new.files) call.pipe call.same call.rest call.keeps c.in_err-purge_to.ensures.set.1 call.paths (call.bound.1 h.stands.span.0) call.stands);
    }

pub returns-clause-lets_go : goal.returns-clause-lets_go
returns-clause-lets_go g c =
    let d = g.F.FileSystem.disk c.args.files.now in
    let e = g.F.FileSystem.disk c.purge_to.new.files in
    let p = c.args.pipes.now in
    let q = c.purge_to.new.self in
    let other = c.in_ok-purge_to.ensures.other in
    let call = c.in_ok-purge_to.ensures.call in
    record {
      ok = λ content h. files_gone d e p q c.args.log.now c.args.next content h other call.pipe call.same call.rest call.ok.0 call.holds;
      err = λ content h. tt;
      append = other;
      kept = record {
        append = pipe_as_before p.append q.append d e other;
        rewrite = record { set = c.in_ok-purge_to.ensures.set.1; paths = call.paths; alone = call.alone };
        first = ap first_of other.same;
      };
      left = λ content h. tt;
    }

pub returns-in_err-purge_to-clause-cause : goal.returns-in_err-purge_to-clause-cause
returns-in_err-purge_to-clause-cause g c =
    let old = g.F.FileSystem.meter c.args.files.now in
    let new = g.F.FileSystem.meter c.purge_to.new.files in
    let e = c.in_err-purge_to.field-0.0 in
    let p = c.args.pipes.now.rewrite in
    refused old new c.from_residual.result e c.from_residual.ensures.1 (going_cause old new (failed {X = ℕ} e)
    (purge.going_cause p (g.F.FileSystem.disk c.args.files.now) c.args.next old new (failed {X = ℕ} e) (inside p c.args.next c.requires.1.stands.span) c.in_err-purge_to.ensures.cause))
