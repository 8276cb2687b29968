use Rattle.std.proofs.Common.{subst}
use Rattle.raft_sent_frames.specs.Frames.{frames_of}
use Rattle.raft_cluster.specs.Cluster.{ClusterValue, IsReached}
use Rattle.raft_cluster.proofs.EventLemmas.{headline}
use Rattle.raft_cluster.proofs.cluster.Cluster.replays.Goals as goal

-- what is reached has the headline
pub returns-clause-headline : goal.returns-clause-headline
returns-clause-headline g c =
    let v = c.args.self.now in
    let P : ClusterValue g.row.N.Denot → Type 0 = λ x. IsReached g.N.ClusterNode.acts x.nodes (frames_of x.sent) x.history in
    headline g.N.Machine.StateMachine.rules g.N.ClusterNode.acts g.N.ClusterNode.states _ _ _ (subst P c.self.view_is c.self.invariant.0)
