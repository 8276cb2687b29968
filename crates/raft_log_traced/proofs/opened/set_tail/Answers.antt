use Rattle.std.proofs.Common.{◌≡◌, ◌-◌, arith}
use Rattle.raft_log_memtables.proofs.Cells.{on_ok}
use Rattle.raft_log_memtables.specs.MemTables.{content_in}
use Rattle.raft_log_traces.specs.GroupTraces.{traces_in}
use Rattle.raft_log_traced.proofs.OpenedLemmas.{tail_moves}
use Rattle.raft_log_traced.proofs.opened.set_tail.Goals as goal

pub returns : goal.returns
returns c =
    let some = c.if-next-low.false in
    on_ok c.set_tail.result c.set_tail.ensures
    (λ a. tail_moves (content_in c.args.tables.now c.args.group) c.args.group c.args.low c.args.next c.file_of-file.result (traces_in c.args.traces.now) (traces_in c.set_tail.new.self)
    (omega (arith, some)) c.file_of-file.ensures a)
