use Rattle.raft_cluster_laws.proofs.EventKept.{events_are_kept, fewer_are_kept, kept_by_all, new_is_kept}
use Rattle.raft_cluster_laws.proofs.keeping.events_are_kept.Goals as goal

pub returns-clause-new : goal.returns-clause-new
returns-clause-new c = new_is_kept

pub returns-clause-events : goal.returns-clause-events
returns-clause-events c = events_are_kept

pub returns-clause-fewer : goal.returns-clause-fewer
returns-clause-fewer c = fewer_are_kept

pub returns-clause-all : goal.returns-clause-all
returns-clause-all c = kept_by_all
