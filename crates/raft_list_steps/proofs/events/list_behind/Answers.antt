use Rattle.raft_list_steps.proofs.RunLemmas.{heard_next, nothing_noted}
use Rattle.raft_list_steps.proofs.events.list_behind.Goals as goal

pub loop-report-init : goal.loop-report-init
loop-report-init c = nothing_noted c.new-list.result.notes c.new-list.ensures.truth c.new-list.ensures.noted

pub loop-report-preserved : goal.loop-report-preserved
loop-report-preserved c =
    heard_next c.loop-report.list.notes c.make_room.new.self.notes c.hear.new.list.notes c.loop-report.yielded c.in-Some.report
    c.make_room.ensures.accounts c.make_room.ensures.noted c.hear.ensures.hears c.loop-report.invariant
