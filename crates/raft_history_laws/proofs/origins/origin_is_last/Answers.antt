use Rattle.raft_history_laws.proofs.LastNoted.{origin_is_last, told_have_origins}
use Rattle.raft_history_laws.proofs.origins.origin_is_last.Goals as goal

pub returns-clause-origin : goal.returns-clause-origin
returns-clause-origin c = origin_is_last

pub returns-clause-told : goal.returns-clause-told
returns-clause-told c = told_have_origins
