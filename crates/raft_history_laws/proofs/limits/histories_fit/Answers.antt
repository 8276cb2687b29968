use Rattle.raft_history_laws.proofs.FittingWorlds.{committed_within, messages_fit, stored_parts_fit}
use Rattle.raft_history_laws.proofs.limits.histories_fit.Goals as goal

pub returns-clause-stored : goal.returns-clause-stored
returns-clause-stored c = stored_parts_fit

pub returns-clause-committed : goal.returns-clause-committed
returns-clause-committed c = committed_within

pub returns-clause-sent : goal.returns-clause-sent
returns-clause-sent c = messages_fit
