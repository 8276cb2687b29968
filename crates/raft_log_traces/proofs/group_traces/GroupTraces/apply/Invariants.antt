use Rattle.std.proofs.Common.{take}
use Rattle.raft_log_records.specs.Item.{items_of}
use Rattle.raft_log_covers.specs.Kept.{traces_after}
use Rattle.raft_log_traces.specs.Alike.{AreAlike}
use Rattle.raft_log_traces.specs.Traces.{traces_at}
use Rattle.raft_log_traces.proofs.group_traces.GroupTraces.apply.Given as goal

abbrev pub invariant-loop-item : goal.invariant-loop-item
invariant-loop-item l = AreAlike (traces_after l.file (items_of (take l.item-index l.items)) (traces_at l.fn.self.traces)) (traces_at l.self.traces)
