-- A node that is down can be opened with what a history leads to there, and stores nothing of a group that isn't there.
use Rattle.raft_applier_laws.proofs.ReadyStates.{down_ready}
use Rattle.raft_history_laws.proofs.TakenNodes.{absent_stores_nothing}
use Rattle.raft_node_joint.specs.Reopening.{AbsentGroupsStoreNothing, DownNodesAreReopened}

pub down_nodes_are_reopened : DownNodesAreReopened
down_nodes_are_reopened rules ids h history own st at =
    let ready = down_ready ids at.group (at.end).world at.is_history own st at.node in
    record { openable = ready.openable; whole = ready.whole }

pub absent_groups_store_nothing : AbsentGroupsStoreNothing
absent_groups_store_nothing rules ids h history own st at gone =
    absent_stores_nothing ids at.group (at.end).world at.is_history own st at.node gone
