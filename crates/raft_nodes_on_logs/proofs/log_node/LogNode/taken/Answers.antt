use Rattle.raft_nodes_on_logs.specs.Kinds.{kind_of}
use Rattle.raft_nodes_on_logs.proofs.Handing.{passed_behind}
use Rattle.raft_nodes_on_logs.proofs.log_node.LogNode.taken.Goals as goal

pub returns-in-Err-outcome_of-clause-passed : goal.returns-in-Err-outcome_of-clause-passed
returns-in-Err-outcome_of-clause-passed g c =
    passed_behind (kind_of g.M.StateMachine g.L.ContentLog g.L.CrashLog g.L.NodeLog) c.args.self.now _ c.args.self.now.up c.args.answered c.in-Ok.outcome c.fail-stop.result c.in-Err-outcome_of.unsaid
    c.stopped_behind.result _ c.in-Ok.is c.fail-stop.ensures.does c.in-Err-outcome_of.ensures.err c.stopped_behind.ensures
