use Rattle.std.proofs.Common.{refl, subst}
use Rattle.raft_node.specs.Ending.{NamesWaiting}
use Rattle.raft_nodes_on_logs.specs.Standing.{value}
use Rattle.raft_nodes_on_logs.specs.Kinds.{kind_of}
use Rattle.raft_nodes_on_logs.proofs.Handing.{passed_from, when_up}
use Rattle.raft_nodes_on_logs.proofs.log_node.LogNodeClusterNode.add_group.Goals as goal

pub returns-in-Some-clause-does : goal.returns-in-Some-clause-does
returns-in-Some-clause-does g c =
    let k = kind_of g.M.StateMachine g.L.ContentLog g.L.CrashLog g.L.NodeLog in
    let e = c.add_group-answered.ensures in
    when_up k c.args.self.now _ c.args.self.now.up c.in-Some.node _ _ c.in-Some.is (record {
      mid = c.add_group-answered.new.self;
      result = c.add_group-answered.result;
      adding = record {
        failed = e.failed;
        exists = e.exists;
        added = e.added;
        elsewhere = e.elsewhere;
        names = λ why unknown is. subst (NamesWaiting (value k c.in-Some.node).running) is e.names;
      };
      met = e.met;
      passed = passed_from k c.args.self.now _ _ c.add_group-answered.new.self c.add_group-answered.result _ refl c.taken.ensures.passed;
    })
