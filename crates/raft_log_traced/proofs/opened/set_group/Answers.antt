use Rattle.raft_log_memtables.proofs.Cells.{on_ok}
use Rattle.raft_log_memtables.specs.MemTables.{content_in, reach_in}
use Rattle.raft_log_traces.specs.GroupTraces.{traces_in}
use Rattle.raft_log_traced.proofs.OpenedLemmas.{set_one}
use Rattle.raft_log_traced.proofs.opened.set_group.Goals as goal

pub returns : goal.returns
returns c =
    let ends = c.ends_of-low.result in
    on_ok c.set_tail.result c.set_tail.ensures
    (λ tailed. set_one (content_in c.args.tables.now c.args.group) (reach_in c.args.tables.now c.args.group) c.args.group ends.0 ends.1 ends.2 (traces_in c.args.traces.now) (traces_in c.set_ends.new.self)
    (traces_in c.set_files.new.traces) (traces_in c.set_tail.new.traces) c.ends_of-low.ensures.ends c.in_ok-set_ends.ensures c.in_ok-set_files.ensures tailed)
