use Rattle.std.proofs.Common.{◌∙◌, ap, length}
use Rattle.raft_cluster.specs.Fused.{is_cut}
use Rattle.raft_cluster.proofs.FusedLemmas.{outcome_there}
use Rattle.raft_cluster.proofs.cluster.Cluster.step_cut.Goals as goal

pub returns-clause-ok : goal.returns-clause-ok
returns-clause-ok g c =
    let here = outcome_there g.N.ClusterNode.acts c.args.self.now c.step.new.self c.args.event c.in_ok-step.ensures.ok c.index-history-at.result c.history.result.now (length c.history-at.result.now) c.history.ensures (ap length c.history-at.ensures) in
    record { happens = c.in_ok-step.ensures.ok; is = c.is_cut.ensures ∙ ap is_cut here }
