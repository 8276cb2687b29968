use Rattle.std.proofs.Common.{◌+◌, get_or, take}
use Rattle.std.proofs.lemmas.List.{take_more}
use Rattle.raft_log_memtables.specs.MemTables.{content_in, reach_in}
use Rattle.raft_log_traces.specs.GroupTraces.{traces_in}
use Rattle.raft_log_traced.specs.Opened.{HasEntries}
use Rattle.raft_log_traced.proofs.OpenedLemmas.{entries_are_change, one_changed}
use Rattle.raft_log_traced.proofs.opened.set_groups.Goals as goal

pub loop-group-preserved : goal.loop-group-preserved
loop-group-preserved c =
    let groups = c.args.groups.now in
    let index = c.loop-group.group-index in
    let content = content_in c.args.tables.now in
    let reach = reach_in c.args.tables.now in
    one_changed (λ group. HasEntries (content group) (reach group)) (entries_are_change content reach) (take index groups) (take (index + 1) groups) (get_or groups index 0)
    (traces_in c.args.traces.now) (traces_in c.loop-group.traces) (traces_in c.set_group.new.traces) (take_more groups index 0 c.loop-group-test.true) c.loop-group.invariant
    c.in_ok-set_group.ensures.others c.in_ok-set_group.ensures.own
