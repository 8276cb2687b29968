use Rattle.std.proofs.Common.{◌≡◌, Some, rules}
use Rattle.std.specs.BTreeMap.{UpdatesBy, get}
use Rattle.std.specs.Ordering.{nat_cmp}
use Rattle.raft_log_memtables.proofs.Cells.{on_ok}
use Rattle.raft_log_traces.specs.Opened.{trace_filed}
use Rattle.raft_log_traces.proofs.OpenedLemmas.{set_group}
use Rattle.raft_log_traces.proofs.opened.set_file.Goals as goal

pub returns-in-Some : goal.returns-in-Some
returns-in-Some c =
    let old = c.args.traces.now in
    let new = c.get_mut.follows.lender c.set_file.new.self in
    let group = c.args.raft_group_id in
    let updates : UpdatesBy nat_cmp (nat_cmp group) old new (Some c.set_file.new.self) = search rules in
    let is : Some c.in-Some.trace.now ≡ get nat_cmp old group = c.in-Some.ensures.value in
    on_ok c.set_file.result c.set_file.ensures.ok (λ a. set_group old new group c.in-Some.trace.now c.set_file.new.self (trace_filed c.args.first c.args.file) is updates a)
