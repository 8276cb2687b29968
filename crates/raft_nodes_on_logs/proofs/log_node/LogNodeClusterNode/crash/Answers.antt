use Rattle.raft_nodes_on_logs.specs.Kinds.{kind_of}
use Rattle.raft_nodes_on_logs.proofs.Handing.{handed_back, when_up}
use Rattle.raft_nodes_on_logs.proofs.log_node.LogNodeClusterNode.crash.Goals as goal

pub returns-in-Ok-crash-clause-does : goal.returns-in-Ok-crash-clause-does
returns-in-Ok-crash-clause-does g c =
    let k = kind_of g.M.StateMachine g.L.ContentLog g.L.CrashLog g.L.NodeLog in
    let e = c.go_down.ensures in
    let n = c.in-Some.node in
    let m = c.crash.new.self in
    when_up k c.args.self.now c.go_down.new.self c.args.self.now.up n _ _ c.in-Some.is (record {
      stays = record { id = e.id; down = e.down };
      shown = handed_back k n.groups.storage c.go_down.new.self.files
          (λ content found. g.met.L.NodeLog.crashed_left n.groups.storage.log m.groups.storage.log c.in-Ok.chosen content c.in-Ok-crash.ensures.crashed (e.finds content found));
      chosen = c.in-Ok.chosen;
      says = c.in-Ok.ensures;
      left = m.groups.storage.log;
      crashed = c.in-Ok-crash.ensures.crashed;
      hands_back = e.hands_back;
    })
