use Rattle.raft_node_joint.proofs.LeadingDown.{down_fuses_lead}
use Rattle.raft_node_joint.proofs.ResetsLeadOn.{fuses_lead}
use Rattle.raft_node_joint.proofs.reopening.fuses_lead_on.Goals as goal

pub returns-clause-up : goal.returns-clause-up
returns-clause-up g c = fuses_lead _ _ _

pub returns-clause-down : goal.returns-clause-down
returns-clause-down g c = down_fuses_lead
