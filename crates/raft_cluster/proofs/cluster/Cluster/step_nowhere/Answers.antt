use Rattle.raft_cluster.proofs.FusedLemmas.{steps_nowhere}
use Rattle.raft_cluster.proofs.cluster.Cluster.step_nowhere.Goals as goal

pub returns-clause-ok : goal.returns-clause-ok
returns-clause-ok g c =
    steps_nowhere g.N.ClusterNode.acts c.args.self.now c.step.new.self c.args.event c.in_ok-step.ensures.ok c.requires
