use Rattle.raft_node_joint.proofs.LeadingDown.{crashes_lead}
use Rattle.raft_node_joint.proofs.reopening.crashes_lead_on.Goals as goal

pub returns : goal.returns
returns g c = crashes_lead _ _
