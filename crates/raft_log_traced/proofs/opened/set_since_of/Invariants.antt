use Rattle.std.proofs.Common.{take}
use Rattle.raft_log_traces.specs.GroupTraces.{traces_in}
use Rattle.raft_log_traced.specs.Opened.{AreChanged, HasSince}
use Rattle.raft_log_traced.proofs.opened.set_since_of.Given as goal

abbrev pub invariant-loop-group : goal.invariant-loop-group
invariant-loop-group l = AreChanged (HasSince l.first) (take l.group-index l.groups) (traces_in l.fn.traces) (traces_in l.traces)
