use Rattle.raft_laws.proofs.Histories.{events-lead-to-nodes}
use Rattle.raft_laws.proofs.world_laws.events_lead_to_nodes.Goals as goal

pub returns : goal.returns
returns c = events-lead-to-nodes
