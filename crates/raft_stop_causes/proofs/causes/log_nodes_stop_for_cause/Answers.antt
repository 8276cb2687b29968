use Rattle.raft_nodes_on_logs.specs.Kinds.{kind_of}
use Rattle.raft_stop_causes.proofs.Law.{stop_for_cause}
use Rattle.raft_stop_causes.proofs.causes.log_nodes_stop_for_cause.Goals as goal

pub returns : goal.returns
returns g c = λ short.
    stop_for_cause (kind_of g.M.StateMachine g.L.ContentLog g.L.CrashLog g.L.NodeLog) short g.met.M.StateMachine.begins g.met.M.StateMachine.restores
