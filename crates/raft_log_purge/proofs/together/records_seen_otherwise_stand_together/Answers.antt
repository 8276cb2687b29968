use Rattle.raft_log_purge.proofs.ToldLemmas.{maps_together}
use Rattle.raft_log_purge.proofs.together.records_seen_otherwise_stand_together.Goals as goal

pub returns : goal.returns
returns c = maps_together
