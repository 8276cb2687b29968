-- It goes on with each chunk.
use Rattle.std.proofs.Common.{◌≡◌, ℕ, refl, subst, ◌∙◌, arith}
use Rattle.raft_log_disk.proofs.RefusalLemmas.{no_more_same, no_more_then}
use Rattle.raft_log_cleaner.proofs.Caused.{refused_then}
use Rattle.raft_log_rewriter.specs.Parts.Stage.{entries_to}
use Rattle.raft_log_rewriter.specs.Rewriting.{IsRewriting, at}
use Rattle.raft_log_traces.specs.GroupTraces.{traces_in}
use Rattle.raft_log_rewriter.proofs.Steps.{come_done, come_more, come_refused, come_seen, not_yet}
use Rattle.raft_log_rewriter.proofs.group.rewrite_entries.Goals as goal

pub loop-begin-init : goal.loop-begin-init
loop-begin-init g c = record {
  come = not_yet (g.F.FileSystem.disk c.args.files.now) c.args.pipes.now c.args.log.now c.args.writer.now (at (entries_to c.args.group c.args.range.0 c.args.range.0));
  low = omega arith;
  high = c.requires.range.order;
  traces = refl;
  later = no_more_same _ _;
}

pub add_chunk-requires-clause-rewriting : goal.add_chunk-requires-clause-rewriting
add_chunk-requires-clause-rewriting g c κs within =
    let r = c.requires.rewriting in
    (c.args.range.0, record { next = r.next; done = r.done; content = r.content; state = c.loop-begin.invariant.come.on r.next r.done r.content r.state })

pub add_chunk-requires-clause-only : goal.add_chunk-requires-clause-only
add_chunk-requires-clause-only g c κs within =
    λ i low high. (λ j. (traces_in (c.loop-begin.invariant.traces j) c.args.group).entry_file i) ∙ c.requires.range.only i (omega (arith, c.loop-begin.invariant.low, low)) high

pub returns-in_err-add_chunk : goal.returns-in_err-add_chunk
returns-in_err-add_chunk g c = record {
  goes_on = come_refused c.from_residual.result c.in_err-add_chunk.field-0.0 c.from_residual.ensures.1 c.loop-begin.invariant.come (c.in_err-add_chunk.ensures.goes_on c.args.range.0);
  traces = c.loop-begin.invariant.traces;
  later = c.loop-begin.invariant.later;
  cause = refused_then c.loop-begin.invariant.later (g.F.FileSystem.meter c.loop-begin.files) c.from_residual.result c.in_err-add_chunk.field-0.0 c.from_residual.ensures.1 c.in_err-add_chunk.ensures.cause;
}

pub write_part-requires-after_bounds : goal.write_part-requires-after_bounds
write_part-requires-after_bounds g c κs within =
    let r = c.requires.rewriting in
    (c.loop-begin.invariant.come.on r.next r.done r.content r.state).stands.pipes

pub returns-in_err-write_part : goal.returns-in_err-write_part
returns-in_err-write_part g c = record {
  goes_on = come_refused c.from_residual-in_err-write_part.result c.in_err-write_part.field-0.0 c.from_residual-in_err-write_part.ensures.1
      (come_more tt c.loop-begin.invariant.come (c.in_ok-add_chunk.ensures.goes_on c.args.range.0)) (c.in_err-write_part.ensures.goes_on (entries_to c.args.group c.args.range.0 c.add_chunk.new.begin));
  traces = c.in_err-write_part.ensures.traces ∙ c.loop-begin.invariant.traces;
  later = no_more_then c.loop-begin.invariant.later c.in_err-write_part.ensures.later;
  cause = refused_then c.loop-begin.invariant.later (g.F.FileSystem.meter c.write_part.new.files) c.from_residual-in_err-write_part.result c.in_err-write_part.field-0.0 c.from_residual-in_err-write_part.ensures.1 c.in_err-write_part.ensures.cause;
}

pub loop-begin-preserved : goal.loop-begin-preserved
loop-begin-preserved g c = record {
  come = come_more tt (come_more tt c.loop-begin.invariant.come (c.in_ok-add_chunk.ensures.goes_on c.args.range.0)) (c.in_ok-write_part.ensures.goes_on (entries_to c.args.group c.args.range.0 c.add_chunk.new.begin));
  low = omega (arith, c.loop-begin.invariant.low, c.in_ok-add_chunk.ensures.further.0);
  high = c.in_ok-add_chunk.ensures.further.1;
  traces = c.in_ok-write_part.ensures.traces ∙ c.loop-begin.invariant.traces;
  later = no_more_then c.loop-begin.invariant.later c.in_ok-write_part.ensures.later;
}

pub loop-begin-smaller : goal.loop-begin-smaller
loop-begin-smaller g c = omega (arith, c.in_ok-add_chunk.ensures.further.0, c.in_ok-add_chunk.ensures.further.1)

pub returns : goal.returns
returns g c =
    let f = g.F.FileSystem.disk c.loop-begin.files in
    let all : c.loop-begin.begin ≡ c.args.range.1 = omega (arith, c.loop-begin.invariant.high, c.loop-begin-test.false) in
    record {
      goes_on = come_done tt (come_seen c.loop-begin.invariant.come
          (λ next groups content s t. subst (λ (n : ℕ). IsRewriting f c.loop-begin.pipes c.loop-begin.log c.loop-begin.writer next (at (entries_to c.args.group c.args.range.0 n) groups) content) all t));
      traces = c.loop-begin.invariant.traces;
      later = c.loop-begin.invariant.later;
      cause = tt;
    }
