-- What the traces of all groups mean.
use Rattle.raft_log_covers.specs.Kept.{Traces}
use Rattle.raft_log_traces.specs.declared.group_traces.GroupTraces.{GroupTraces}
use Rattle.raft_log_traces.specs.Traces.{traces_at}

unfoldable pub traces_in : GroupTraces → Traces
traces_in traces = traces_at traces.traces
