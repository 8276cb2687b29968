-- It goes on with each group.
use Rattle.std.proofs.Common.{◌≡◌, ℕ, ◌+◌, ◌++◌, List, take, get_or, arith, subst}
use Rattle.std.proofs.lemmas.List.{take_all, take_more}
use Rattle.raft_log_disk.proofs.RefusalLemmas.{no_more_same, no_more_then}
use Rattle.raft_log_cleaner.proofs.Caused.{refused_then}
use Rattle.raft_log_rewriter.specs.Parts.Stage.{between}
use Rattle.raft_log_rewriter.specs.Rewriting.{IsRewriting, at}
use Rattle.raft_log_rewriter.proofs.Steps.{come_begun, come_done, come_next, come_refused, come_seen, come_shifted}
use Rattle.raft_log_rewriter.proofs.manager.rewrite_each.Goals as goal

pub loop-group-init : goal.loop-group-init
loop-group-init g c = record {
  come = come_begun (g.F.FileSystem.disk c.args.files.now) c.args.pipes.now c.args.log.now c.args.writer.now;
  group = c.requires.group;
  later = no_more_same _ _;
}

pub rewrite_group-requires-clause-rewriting : goal.rewrite_group-requires-clause-rewriting
rewrite_group-requires-clause-rewriting g c κs within =
    let r = c.requires.rewriting in
    record { next = r.next; done = _; content = r.content; state = c.loop-group.invariant.come.on r.next r.done r.content r.state }

pub returns-in_err-rewrite_group-clause-goes_on : goal.returns-in_err-rewrite_group-clause-goes_on
returns-in_err-rewrite_group-clause-goes_on g c = come_refused c.from_residual.result c.in_err-rewrite_group.field-0.0 c.from_residual.ensures.1 c.loop-group.invariant.come (come_shifted _ c.in_err-rewrite_group.ensures.goes_on)

pub returns-clause-goes_on : goal.returns-clause-goes_on
returns-clause-goes_on g c =
    let f = g.F.FileSystem.disk c.loop-group.files in
    let all : take c.loop-group.group-index c.args.groups.now ≡ c.args.groups.now = take_all c.loop-group.group-index c.args.groups.now (omega arith) in
    come_done tt (come_seen c.loop-group.invariant.come
    (λ next groups content s t. subst (λ (l : List ℕ). IsRewriting f c.loop-group.pipes c.loop-group.log c.loop-group.writer next (at between (groups ++ l)) content) all t))

pub returns-in_err-rewrite_group-clause-later : goal.returns-in_err-rewrite_group-clause-later
returns-in_err-rewrite_group-clause-later g c = no_more_then c.loop-group.invariant.later c.in_err-rewrite_group.ensures.later

pub loop-group-preserved : goal.loop-group-preserved
loop-group-preserved g c = record {
  come = come_next (take c.loop-group.group-index c.args.groups.now) (take (c.loop-group.group-index + 1) c.args.groups.now) (get_or c.args.groups.now c.loop-group.group-index 0)
      (take_more c.args.groups.now c.loop-group.group-index 0 (omega arith)) c.loop-group.invariant.come c.in_ok-rewrite_group.ensures.goes_on;
  group = c.in_ok-rewrite_group.ensures.group;
  later = no_more_then c.loop-group.invariant.later c.in_ok-rewrite_group.ensures.later;
}

pub returns-in_err-rewrite_group-clause-cause : goal.returns-in_err-rewrite_group-clause-cause
returns-in_err-rewrite_group-clause-cause g c = refused_then c.loop-group.invariant.later (g.F.FileSystem.meter c.rewrite_group.new.files) c.from_residual.result c.in_err-rewrite_group.field-0.0 c.from_residual.ensures.1 c.in_err-rewrite_group.ensures.cause
