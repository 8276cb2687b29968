use Rattle.raft_history_laws.proofs.RunLeads.{matched_answered, states_replay}
use Rattle.raft_history_laws.proofs.known_peers.leaders_know_their_peers.Goals as goal

pub returns-clause-replay : goal.returns-clause-replay
returns-clause-replay c = states_replay

pub returns-clause-answered : goal.returns-clause-answered
returns-clause-answered c = matched_answered
