use Rattle.raft_snapshot_laws.proofs.StoredSnapshots.{leaders_build, stored_come}
use Rattle.raft_snapshot_laws.proofs.SentSnapshots.{sent_are_stored}
use Rattle.raft_snapshot_laws.proofs.snapshots.leaders_build_their_snapshots.Goals as goal

pub returns-clause-come : goal.returns-clause-come
returns-clause-come c = stored_come

pub returns-clause-built : goal.returns-clause-built
returns-clause-built c = leaders_build

pub returns-clause-sent : goal.returns-clause-sent
returns-clause-sent c = sent_are_stored
