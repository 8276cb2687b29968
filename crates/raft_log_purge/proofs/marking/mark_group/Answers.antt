use Rattle.std.proofs.Common.{Bool, sym, subst}
use Rattle.raft_log_marks.specs.MarkLaws.{IsThere}
use Rattle.raft_log_traces.specs.GroupTraces.{traces_in}
use Rattle.raft_log_traces.specs.Traces.{trace_in}
use Rattle.raft_log_purge.proofs.StepLemmas.{marked_group, marks_stay}
use Rattle.raft_log_purge.proofs.marking.mark_group.Goals as goal

pub returns-clause-steps : goal.returns-clause-steps
returns-clause-steps c = λ content there.
    let group = c.args.group in
    marked_group content (traces_in c.args.traces.now) (traces_in c.note_marks.new.traces) (trace_in c.in-Some.trace.now) group c.has_group-is_there.result c.args.batch.now.items c.add_marks.new.batch.items
    (subst (λ (b : Bool). IsThere b (content group)) (sym c.has_group-is_there.ensures) (there group)) c.in-Some.ensures c.in_ok-add_marks.ensures.added c.note_marks.ensures

pub returns-clause-stays : goal.returns-clause-stays
returns-clause-stays c = λ other h. marks_stay c.args.file (traces_in c.args.traces.now) (traces_in c.note_marks.new.traces) c.args.group c.has_group-is_there.result c.note_marks.ensures other h
