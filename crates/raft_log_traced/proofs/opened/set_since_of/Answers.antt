use Rattle.std.proofs.Common.{◌+◌, get_or, take}
use Rattle.std.proofs.lemmas.List.{take_more}
use Rattle.raft_log_covers.specs.Kept.{Traces}
use Rattle.raft_log_covers.specs.Trace.{Trace}
use Rattle.raft_log_traces.specs.GroupTraces.{traces_in}
use Rattle.raft_log_traces.specs.Opened.{trace_since}
use Rattle.raft_log_traced.specs.Opened.{HasSince}
use Rattle.raft_log_traced.proofs.OpenedLemmas.{at_group, elsewhere, one_changed, since_is_change}
use Rattle.raft_log_traced.proofs.opened.set_since_of.Goals as goal

pub loop-group-preserved : goal.loop-group-preserved
loop-group-preserved c =
    let groups = c.args.groups.now in
    let index = c.loop-group.group-index in
    let group = get_or groups index 0 in
    let us : Traces = traces_in c.loop-group.traces in
    let vs : Traces = traces_in c.set_since.new.self in
    let t : Trace = trace_since c.args.first (us group) in
    one_changed (HasSince c.args.first) (since_is_change c.args.first) (take index groups) (take (index + 1) groups) group
    (traces_in c.args.traces.now) us vs (take_more groups index 0 c.loop-group-test.true) c.loop-group.invariant
    (elsewhere group t us vs c.in_ok-set_since.ensures) (at_group group t us vs c.in_ok-set_since.ensures)
