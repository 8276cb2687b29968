use Rattle.std.proofs.Common.{true, ap}
use Rattle.raft_log_records.specs.Batch.{Batch}
use Rattle.raft_log_traces.specs.GroupTraces.{traces_in}
use Rattle.raft_log_traces.specs.Traces.{trace_in}
use Rattle.raft_log_purge.proofs.StepLemmas.{marked_group, marked_new}
use Rattle.raft_log_purge.proofs.marking.mark_anyway.Goals as goal

pub returns-in_default-clause-steps : goal.returns-in_default-clause-steps
returns-in_default-clause-steps c = λ content there.
    marked_new content (traces_in c.args.traces.now) c.args.group c.args.batch.now.items c.add_command.new.self.items there c.in_default.ensures (ap (λ (b : Batch). b.items) c.in_ok-add_command.ensures.0)

pub returns-clause-steps : goal.returns-clause-steps
returns-clause-steps c = λ content there.
    marked_group content (traces_in c.args.traces.now) (traces_in c.set_marked.new.self) (trace_in c.in-Some.trace.now) c.args.group true c.args.batch.now.items c.add_marks.new.batch.items there c.in-Some.ensures c.in_ok-add_marks.ensures.added c.set_marked.ensures
