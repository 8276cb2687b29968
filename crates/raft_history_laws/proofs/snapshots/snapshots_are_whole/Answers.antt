use Rattle.raft_history_laws.proofs.WholeSnapshots.{sent_whole, snapshots_whole}
use Rattle.raft_history_laws.proofs.snapshots.snapshots_are_whole.Goals as goal

pub returns-clause-stored : goal.returns-clause-stored
returns-clause-stored c = snapshots_whole

pub returns-clause-sent : goal.returns-clause-sent
returns-clause-sent c = sent_whole
