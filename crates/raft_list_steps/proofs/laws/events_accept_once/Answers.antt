use Rattle.raft_list_steps.proofs.OnceLemmas.{events_accept_once, openings_accept_nothing}
use Rattle.raft_list_steps.proofs.laws.events_accept_once.Goals as goal

pub returns-clause-events : goal.returns-clause-events
returns-clause-events c = events_accept_once

pub returns-clause-openings : goal.returns-clause-openings
returns-clause-openings c = openings_accept_nothing
