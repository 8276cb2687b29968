use Rattle.std.proofs.Common.{refl}
use Rattle.raft_nodes_on_logs.specs.Kinds.{kind_of}
use Rattle.raft_nodes_on_logs.proofs.Handing.{when_up}
use Rattle.raft_nodes_on_logs.proofs.log_node.LogNodeClusterNode.fail.Goals as goal

pub returns-in-Some-clause-does : goal.returns-in-Some-clause-does
returns-in-Some-clause-does g c =
    when_up (kind_of g.M.StateMachine g.L.ContentLog g.L.CrashLog g.L.NodeLog) c.args.self.now _ c.args.self.now.up c.in-Some.node _ _ c.in-Some.is (record {
      failed = c.fail.new.self;
      why = c.fail.result;
      fails = (c.fail.ensures.why, c.fail.ensures.told);
      named = c.as_stop.ensures;
      up = (refl, refl);
    })
