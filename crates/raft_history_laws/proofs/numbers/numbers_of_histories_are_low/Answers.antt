use Rattle.raft_history_laws.proofs.LowWorlds.{next_numbers_low, sent_in_range, sent_low, stored_numbers_low}
use Rattle.raft_history_laws.proofs.numbers.numbers_of_histories_are_low.Goals as goal

pub returns-clause-sent : goal.returns-clause-sent
returns-clause-sent c = sent_low

pub returns-clause-in_range : goal.returns-clause-in_range
returns-clause-in_range c = sent_in_range

pub returns-clause-stored : goal.returns-clause-stored
returns-clause-stored c = stored_numbers_low

pub returns-clause-next : goal.returns-clause-next
returns-clause-next c = next_numbers_low
