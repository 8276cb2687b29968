use Rattle.raft_node_joint.proofs.LeadingDown.{refused_openings_lead}
use Rattle.raft_node_joint.proofs.OpeningsLeadOn.{left_openings_lead, stops_name_nobody}
use Rattle.raft_node_joint.proofs.reopening.stopped_openings_lead_on.Goals as goal

pub returns-clause-left : goal.returns-clause-left
returns-clause-left g c rules own = left_openings_lead rules own _ _ _

pub returns-clause-names : goal.returns-clause-names
returns-clause-names g c = stops_name_nobody c.args.fault.now

pub returns-clause-refused : goal.returns-clause-refused
returns-clause-refused g c = refused_openings_lead
