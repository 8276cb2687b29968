use Rattle.raft_history_laws.proofs.NotedIds.{noted_above, noted_new}
use Rattle.raft_history_laws.proofs.origins.noted_log_ids_are_new.Goals as goal

pub returns-clause-above : goal.returns-clause-above
returns-clause-above c = noted_above

pub returns-clause-new : goal.returns-clause-new
returns-clause-new c = noted_new
