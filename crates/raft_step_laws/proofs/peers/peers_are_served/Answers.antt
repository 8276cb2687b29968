use Rattle.raft_step_laws.proofs.Served.{peers_served}
use Rattle.raft_step_laws.proofs.peers.peers_are_served.Goals as goal

pub returns : goal.returns
returns c = peers_served
