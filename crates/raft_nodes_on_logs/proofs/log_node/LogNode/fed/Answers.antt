use Rattle.raft_nodes_on_logs.specs.Kinds.{kind_of}
use Rattle.raft_nodes_on_logs.proofs.Handing.{fed_passed}
use Rattle.raft_nodes_on_logs.proofs.log_node.LogNode.fed.Goals as goal

pub returns-in-Some-pop-clause-passed : goal.returns-in-Some-pop-clause-passed
returns-in-Some-pop-clause-passed g c =
    fed_passed (kind_of g.M.StateMachine g.L.ContentLog g.L.CrashLog g.L.NodeLog) c.args.self.now _ c.args.self.now.up c.args.fed.outcomes.items c.pop.new.self.items c.in-Some-pop.outcome c.args.fed.fault
    c.taken-one.result _ c.in_default.is c.in-Some-pop.ensures.items c.taken-one.ensures.passed c.some_of.ensures
