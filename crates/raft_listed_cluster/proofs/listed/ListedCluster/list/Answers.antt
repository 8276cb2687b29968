use Rattle.std.proofs.Common.{subst}
use Rattle.raft_listed_cluster.specs.Listed.{HasLists}
use Rattle.raft_listed_cluster.proofs.KeepingFacts.{has_lists}
use Rattle.raft_listed_cluster.proofs.listed.ListedCluster.list.Goals as goal

pub returns-clause-lists : goal.returns-clause-lists
returns-clause-lists g c law =
    let rules = g.N.Machine.StateMachine.rules in
    let acts = g.N.ClusterNode.acts in
    let states = g.N.ClusterNode.states in
    subst (HasLists rules acts states) c.self.view_is
    (has_lists rules acts states law (record { cluster = c.self.inside.cluster; groups = c.self.inside.lists }) (c.self.invariant law))

pub returns-in_err-kept-clause-lists : goal.returns-in_err-kept-clause-lists
returns-in_err-kept-clause-lists g c law =
    let rules = g.N.Machine.StateMachine.rules in
    let acts = g.N.ClusterNode.acts in
    let states = g.N.ClusterNode.states in
    subst (HasLists rules acts states) c.self.view_is
    (has_lists rules acts states law (record { cluster = c.self.inside.cluster; groups = c.self.inside.lists }) (c.self.invariant law))
