use Rattle.raft_laws.proofs.OpenedStates.{opened_low, opened_keeps}
use Rattle.raft_laws.proofs.opened.opened_states_are_ready.Goals as goal

pub returns-clause-places : goal.returns-clause-places
returns-clause-places c = opened_low

pub returns-clause-purges : goal.returns-clause-purges
returns-clause-purges c = opened_keeps
