use Rattle.std.proofs.Common.{ap, ◌∙◌}
use Rattle.raft_listed_cluster.specs.Reading.{applied_in}
use Rattle.raft_listed_cluster.proofs.ReadingFacts.{applied_lent, its_applied}
use Rattle.raft_listed_cluster.proofs.listed.ListedCluster.applied_of.Goals as goal

pub returns-clause-within : goal.returns-clause-within
returns-clause-within g c has =
    let acts = g.N.ClusterNode.acts in
    applied_lent g.N.Machine.StateMachine.rules acts g.N.ClusterNode.states c.args.self.now has c.args.id c.args.group c.applied.result
    (c.applied.ensures.tells ∙ its_applied acts c.args.self.now.cluster.nodes c.args.id c.args.group c.in_ok-node.node.now c.in_ok-node.ensures)

-- there is no such node
pub returns-in_err-node-clause-within : goal.returns-in_err-node-clause-within
returns-in_err-node-clause-within g c has =
    let acts = g.N.ClusterNode.acts in
    applied_lent g.N.Machine.StateMachine.rules acts g.N.ClusterNode.states c.args.self.now has c.args.id c.args.group c.from_residual.result
    (c.from_residual.ensures ∙ ap (λ w. applied_in acts w c.args.group) c.in_err-node.ensures)
