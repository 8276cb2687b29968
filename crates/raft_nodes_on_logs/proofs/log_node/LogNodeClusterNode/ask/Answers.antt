use Rattle.std.proofs.Common.{refl}
use Rattle.raft_nodes_on_logs.specs.Kinds.{kind_of}
use Rattle.raft_nodes_on_logs.proofs.Handing.{passed_from, when_up}
use Rattle.raft_nodes_on_logs.proofs.log_node.LogNodeClusterNode.ask.Goals as goal

pub returns-in-Some-clause-does : goal.returns-in-Some-clause-does
returns-in-Some-clause-does g c =
    let k = kind_of g.M.StateMachine g.L.ContentLog g.L.CrashLog g.L.NodeLog in
    when_up k c.args.self.now _ c.args.self.now.up c.in-Some.node _ _ c.in-Some.is (record {
      mid = c.call-answered.new.self;
      result = c.call-answered.result;
      event = c.call-answered.ensures.event;
      met = c.call-answered.ensures.met;
      passed = passed_from k c.args.self.now _ _ c.call-answered.new.self c.call-answered.result _ refl c.taken.ensures.passed;
    })
