use Rattle.std.proofs.Common.{option_map, ap, ◌∙◌}
use Rattle.std.specs.Option.{option_copied}
use Rattle.raft_listed_cluster.specs.Reading.{machine_in}
use Rattle.raft_listed_cluster.proofs.ReadingFacts.{its_machine, machine_lent}
use Rattle.raft_listed_cluster.proofs.listed.ListedCluster.machine_of.Goals as goal

pub returns-clause-front : goal.returns-clause-front
returns-clause-front g c has =
    let acts = g.N.ClusterNode.acts in
    machine_lent g.N.Machine.StateMachine.rules acts g.N.ClusterNode.states c.args.self.now has c.args.id c.args.group _
    (c.machine.ensures.lends ∙ its_machine acts c.args.self.now.cluster.nodes c.args.id c.args.group c.in_ok-node.node.now c.in_ok-node.ensures)

-- there is no such node
pub returns-in_err-node-clause-front : goal.returns-in_err-node-clause-front
returns-in_err-node-clause-front g c has =
    let acts = g.N.ClusterNode.acts in
    machine_lent g.N.Machine.StateMachine.rules acts g.N.ClusterNode.states c.args.self.now has c.args.id c.args.group _
    (ap (λ r. option_map g.N.Machine.StateMachine.state (option_copied r)) c.from_residual.ensures ∙ ap (λ w. machine_in acts w c.args.group) c.in_err-node.ensures)
