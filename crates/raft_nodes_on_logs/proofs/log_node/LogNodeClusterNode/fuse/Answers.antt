-- A node that is up stays as it is but for its storage's files, and files stay what they are.
use Rattle.std.proofs.Common.{refl, None, Some}
use Rattle.raft_nodes_on_logs.specs.Kinds.{kind_of}
use Rattle.raft_nodes_on_logs.proofs.Handing.{fuses_as, same_storage, same_streams}
use Rattle.raft_nodes_on_logs.proofs.log_node.LogNodeClusterNode.fuse.Goals as goal

pub returns-in-Some-clause-does : goal.returns-in-Some-clause-does
returns-in-Some-clause-does g c =
    let k = kind_of g.M.StateMachine g.L.ContentLog g.L.CrashLog g.L.NodeLog in
    let e = c.fuse.ensures in
    let n = c.in-Some.node in
    let m = c.fuse.new.self in
    fuses_as k c.args.self.now _ c.args.first_refused (Some n) c.args.self.now.up c.in-Some.is (record {
      mid = m;
      fused = e.fused;
      stays = same_storage k n m e.same e.well e.kept;
      streams = same_streams k n m e.same;
      up = (refl, refl);
    })

pub returns-in-None-clause-does : goal.returns-in-None-clause-does
returns-in-None-clause-does g c =
    let k = kind_of g.M.StateMachine g.L.ContentLog g.L.CrashLog g.L.NodeLog in
    fuses_as k c.args.self.now _ c.args.first_refused None c.args.self.now.up c.in-None.is (record {
      stays = record { id = refl; down = c.in-None.is };
      fused = c.fuse_files.ensures.fused;
      files = c.fuse_files.ensures.same;
    })
