use Rattle.std.proofs.Common.{subst, sym}
use Rattle.raft_log_traces.specs.Files.{AllKeepFrom}
use Rattle.raft_log_traces.specs.Traces.{trace_in}
use Rattle.raft_log_traces.proofs.FileLemmas.{seen_from, trace_seen, traces_keep}
use Rattle.raft_log_traces.proofs.files.least_of_traces.Goals as goal

pub loop-trace-preserved : goal.loop-trace-preserved
unfolding trace_in
loop-trace-preserved c = record {
  kept = λ n.
      trace_seen n c.in-Some.trace.now c.least_file.result c.loop-trace.least c.lesser-least.result c.loop-trace.trace-iterator c.next.new.self _ c.in-Some.ensures.steps c.lesser-least.ensures c.least_file.ensures.kept (c.loop-trace.invariant.kept n);
  least = λ n all.
      seen_from n c.in-Some.trace.now c.least_file.result c.loop-trace.least c.lesser-least.result c.loop-trace.trace-iterator c.next.new.self c.in-Some.ensures.steps c.lesser-least.ensures (c.least_file.ensures.least n) (c.loop-trace.invariant.least n all);
}

pub returns : goal.returns
returns c = record {
  kept = λ n f. c.loop-trace.invariant.kept n f (subst (AllKeepFrom n) (sym c.in-None.ensures.steps.0) tt);
  least = λ n h. (c.loop-trace.invariant.least n (traces_keep n c.args.traces.now c.values-trace-items.ensures.ordered h)).0;
}
