use Rattle.raft_nodes_on_logs.specs.Kinds.{kind_of}
use Rattle.raft_nodes_on_logs.proofs.Keeping.{keeps_law}
use Rattle.raft_nodes_on_logs.proofs.law.log_nodes_keep_the_law.Goals as goal

pub returns : goal.returns
returns g c = keeps_law (kind_of g.M.StateMachine g.L.ContentLog g.L.CrashLog g.L.NodeLog) g.met.M.StateMachine.begins g.met.M.StateMachine.restores
