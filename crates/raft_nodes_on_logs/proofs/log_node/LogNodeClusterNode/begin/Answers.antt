use Rattle.std.specs.Prelude.{None, refl}
use Rattle.raft_nodes_on_logs.specs.Kinds.{kind_of}
use Rattle.raft_nodes_on_logs.proofs.Beginning.{begins_so}
use Rattle.raft_nodes_on_logs.proofs.log_node.LogNodeClusterNode.begin.Goals as goal

pub returns-clause-begins : goal.returns-clause-begins
returns-clause-begins g c =
    let k = kind_of g.M.StateMachine g.L.ContentLog g.L.CrashLog g.L.NodeLog in
    record {
      id = c.reopen.ensures.id;
      states = begins_so k _ c.reopen.new.self c.reopen.result c.reopen.ensures.does c.in_ok-files.ensures.none;
      old = record { alloc = c.args.alloc; id = c.args.id; up = None; files = c.in_ok-files.files };
      named = refl;
      fresh = c.in_ok-files.ensures.fresh;
      empty = c.in_ok-files.ensures.none;
      answered = c.reopen.result;
      opens = c.reopen.ensures.does;
    }
