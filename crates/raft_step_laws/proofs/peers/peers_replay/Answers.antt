use Rattle.raft_step_laws.proofs.PeerEvents.{leads_begin_anew, peers_replay}
use Rattle.raft_step_laws.proofs.peers.peers_replay.Goals as goal

pub returns-clause-lead : goal.returns-clause-lead
returns-clause-lead c = peers_replay

pub returns-clause-begins : goal.returns-clause-begins
returns-clause-begins c = leads_begin_anew
