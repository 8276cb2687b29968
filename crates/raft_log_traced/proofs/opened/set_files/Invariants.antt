use Rattle.std.proofs.Common.{◌≤◌, ◌-◌}
use Rattle.raft_log_memtables.specs.MemTables.{content_in}
use Rattle.raft_log_traces.specs.GroupTraces.{traces_in}
use Rattle.raft_log_traced.specs.Opened.{IsFiledOne}
use Rattle.raft_log_traced.proofs.opened.set_files.Given as goal

abbrev pub invariant-loop-index : goal.invariant-loop-index
invariant-loop-index l = record {
  within : l.at ≤ l.next;
  filed : IsFiledOne (content_in l.tables l.group) l.group l.low l.at l.before (traces_in l.fn.traces) (traces_in l.traces);
}

abbrev pub decreases-loop-index : goal.decreases-loop-index
decreases-loop-index l = l.next - l.at
