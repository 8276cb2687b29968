use Rattle.std.proofs.Common.{refl, subst, sym}
use Rattle.raft_node_laws.specs.Saying.{AreRising}
use Rattle.raft_node_faults.specs.Fault.{fault_met_by_node}
use Rattle.raft_nodes_on_logs.specs.Acts.{Meets}
use Rattle.raft_nodes_on_logs.specs.Kinds.{kind_of}
use Rattle.raft_nodes_on_logs.proofs.Handing.{going_on, not_cleaned, same_storage, same_streams, told_err, when_err, when_ok, when_up}
use Rattle.raft_nodes_on_logs.proofs.log_node.LogNodeClusterNode.clean_files.Goals as goal

pub returns-in-Ok-clause-does : goal.returns-in-Ok-clause-does
returns-in-Ok-clause-does g c =
    let k = kind_of g.M.StateMachine g.L.ContentLog g.L.CrashLog g.L.NodeLog in
    let e = c.clean_files.ensures in
    let n = c.in-Some.node in
    let m = c.clean_files.new.self in
    let same = c.in-Ok.ensures.same in
    when_up k c.args.self.now _ c.args.self.now.up n _ _ c.in-Some.is (record {
      mid = m;
      going = going_on n.groups.has_failed c.clean_files.result _ (λ failed. (e.failed failed).0) c.in-Ok.is;
      rising = subst AreRising (sym c.from_vec.ensures) c.in-Ok.ensures.rising;
      met = subst (λ r. Meets k n m (fault_met_by_node r)) c.in-Ok.is e.met;
      stays = same_storage k n m same (λ well. when_ok c.clean_files.result _ _ c.in-Ok.is (e.well well)) e.kept;
      streams = same_streams k n m same;
      up = (refl, refl);
    })

pub returns-in-Err-clause-does : goal.returns-in-Err-clause-does
returns-in-Err-clause-does g c =
    let k = kind_of g.M.StateMachine g.L.ContentLog g.L.CrashLog g.L.NodeLog in
    let e = c.clean_files.ensures in
    let n = c.in-Some.node in
    let m = c.clean_files.new.self in
    when_up k c.args.self.now _ c.args.self.now.up n _ _ c.in-Some.is
    (not_cleaned k n m c.args.self.now _ c.clean_files.result c.in-Err.why c.error_of.result c.in-Err.is c.error_of.ensures (refl, refl) e.failed
    (λ going. told_err c.clean_files.result c.in-Err.why _ c.in-Err.is (e.stops going)) (λ going. (when_err c.clean_files.result c.in-Err.why _ c.in-Err.is (e.stopped going)).0) e.kept e.met)
