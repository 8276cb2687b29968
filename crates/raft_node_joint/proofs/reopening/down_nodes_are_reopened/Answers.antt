use Rattle.raft_node_joint.proofs.Reopened.{absent_groups_store_nothing, down_nodes_are_reopened}
use Rattle.raft_node_joint.proofs.reopening.down_nodes_are_reopened.Goals as goal

pub returns-clause-reopened : goal.returns-clause-reopened
returns-clause-reopened c = down_nodes_are_reopened

pub returns-clause-absent : goal.returns-clause-absent
returns-clause-absent c = absent_groups_store_nothing
