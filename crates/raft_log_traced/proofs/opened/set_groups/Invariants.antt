use Rattle.std.proofs.Common.{take}
use Rattle.raft_log_memtables.specs.MemTables.{content_in, reach_in}
use Rattle.raft_log_traces.specs.GroupTraces.{traces_in}
use Rattle.raft_log_traced.specs.Opened.{AreChanged, HasEntries}
use Rattle.raft_log_traced.proofs.opened.set_groups.Given as goal

abbrev pub invariant-loop-group : goal.invariant-loop-group
invariant-loop-group l = AreChanged (λ group. HasEntries (content_in l.tables group) (reach_in l.tables group)) (take l.group-index l.groups) (traces_in l.fn.traces) (traces_in l.traces)
