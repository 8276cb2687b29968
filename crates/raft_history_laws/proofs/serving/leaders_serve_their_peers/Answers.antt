use Rattle.raft_history_laws.proofs.ServedNodes.{lacking_are_sent, leaders_serve}
use Rattle.raft_history_laws.proofs.serving.leaders_serve_their_peers.Goals as goal

pub returns-clause-serve : goal.returns-clause-serve
returns-clause-serve c = leaders_serve

pub returns-clause-sent : goal.returns-clause-sent
returns-clause-sent c = lacking_are_sent
