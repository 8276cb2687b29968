use Rattle.std.proofs.Common.{inl, inr, refl, ap}
use Rattle.raft_node.specs.Standing.{feeding_of}
use Rattle.raft_nodes_on_logs.specs.Kinds.{kind_of}
use Rattle.raft_nodes_on_logs.proofs.Handing.{going_on, refused_so, same_groups, when_up}
use Rattle.raft_nodes_on_logs.proofs.log_node.LogNodeClusterNode.reset_peer.Goals as goal

pub returns-in-Ok-clause-does : goal.returns-in-Ok-clause-does
returns-in-Ok-clause-does g c =
    let k = kind_of g.M.StateMachine g.L.ContentLog g.L.CrashLog g.L.NodeLog in
    let e = c.reset_peer.ensures in
    when_up k c.args.self.now _ c.args.self.now.up c.in-Some.node _ _ c.in-Some.is (record {
      mid = c.reset_peer.new.self;
      stays = same_groups k c.in-Some.node c.reset_peer.new.self c.args.peer e.groups e.machines;
      streams = λ other far. ap feeding_of (e.others other far);
      answer = inr (going_on c.in-Some.node.groups.has_failed c.reset_peer.result _ (λ failed. (e.failed failed).0) c.in-Ok.is, refl, c.in-Ok.ensures.fresh);
      up = (refl, refl);
    })

pub returns-in-Err-clause-does : goal.returns-in-Err-clause-does
returns-in-Err-clause-does g c =
    let k = kind_of g.M.StateMachine g.L.ContentLog g.L.CrashLog g.L.NodeLog in
    let e = c.reset_peer.ensures in
    when_up k c.args.self.now _ c.args.self.now.up c.in-Some.node _ _ c.in-Some.is (record {
      mid = c.reset_peer.new.self;
      stays = same_groups k c.in-Some.node c.reset_peer.new.self c.args.peer e.groups e.machines;
      streams = λ other far. ap feeding_of (e.others other far);
      answer = inl (c.in-Err.ensures.only, refused_so k.cause c.reset_peer.result c.in-Err.fault c.error_of.result (e.failed c.in-Err.ensures.only).0 c.in-Err.is c.error_of.ensures);
      up = (refl, refl);
    })
