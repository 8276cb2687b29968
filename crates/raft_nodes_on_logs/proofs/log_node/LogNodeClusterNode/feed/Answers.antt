use Rattle.std.proofs.Common.{refl}
use Rattle.raft_nodes_on_logs.specs.Kinds.{kind_of}
use Rattle.raft_nodes_on_logs.proofs.Handing.{fed_from, when_up}
use Rattle.raft_nodes_on_logs.proofs.log_node.LogNodeClusterNode.feed.Goals as goal

pub returns-in-Some-clause-does : goal.returns-in-Some-clause-does
returns-in-Some-clause-does g c =
    let k = kind_of g.M.StateMachine g.L.ContentLog g.L.CrashLog g.L.NodeLog in
    let e = c.feed-fed.ensures in
    let r = c.feed-fed.result in
    when_up k c.args.self.now _ c.args.self.now.up c.in-Some.node _ _ c.in-Some.is (record {
      mid = c.feed-fed.new.self;
      outcomes = r.outcomes.items;
      met = r.fault;
      used = r.used;
      fed = record {
        failed = λ failed. let f = e.failed failed in (f.0, f.1, f.3);
        whole = e.whole;
        part = e.part;
      };
      why = e.met;
      passed = fed_from k c.args.self.now _ _ c.feed-fed.new.self r.outcomes.items r.fault _ refl c.fed.ensures.passed;
    })
