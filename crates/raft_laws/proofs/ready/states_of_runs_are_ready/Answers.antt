use Rattle.raft_laws.proofs.ReadyStates.{wish_covered, purge_of_up_node, purge_of_kept_log, snapshot_ready}
use Rattle.raft_laws.proofs.ready.states_of_runs_are_ready.Goals as goal

pub returns-clause-wishes : goal.returns-clause-wishes
returns-clause-wishes c = wish_covered

pub returns-clause-purges : goal.returns-clause-purges
returns-clause-purges c = purge_of_up_node

pub returns-clause-purges_down : goal.returns-clause-purges_down
returns-clause-purges_down c = purge_of_kept_log

pub returns-clause-snapshots : goal.returns-clause-snapshots
returns-clause-snapshots c = snapshot_ready
