use Rattle.raft_laws.proofs.Committed.{committed_holds, applied_holds, snapshot_front}
use Rattle.raft_laws.proofs.one_list.committed_places_are_on_the_list.Goals as goal

pub returns-clause-committed : goal.returns-clause-committed
returns-clause-committed c = committed_holds

pub returns-clause-applied : goal.returns-clause-applied
returns-clause-applied c = applied_holds

pub returns-clause-snapshots : goal.returns-clause-snapshots
returns-clause-snapshots c = snapshot_front
