use Rattle.raft_history_laws.proofs.ToldAnswers.{settled_under_stays, told_is_settled_under}
use Rattle.raft_history_laws.proofs.told.told_tokens_are_settled.Goals as goal

pub returns-clause-settled : goal.returns-clause-settled
returns-clause-settled c = told_is_settled_under

pub returns-clause-stays : goal.returns-clause-stays
returns-clause-stays c = settled_under_stays
