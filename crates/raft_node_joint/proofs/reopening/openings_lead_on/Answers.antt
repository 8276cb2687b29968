use Rattle.raft_node_joint.proofs.OpeningsLeadOn.{closed_openings_lead, openings_lead}
use Rattle.raft_node_joint.proofs.reopening.openings_lead_on.Goals as goal

pub returns-clause-opened : goal.returns-clause-opened
returns-clause-opened g c = openings_lead _ _ _ _

pub returns-clause-closed : goal.returns-clause-closed
returns-clause-closed g c = closed_openings_lead _ _ _ _
