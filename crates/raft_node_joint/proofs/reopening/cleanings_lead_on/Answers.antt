use Rattle.raft_node_joint.proofs.Failures.{stopped_cleanings_lead}
use Rattle.raft_node_joint.proofs.ResetsLeadOn.{cleanings_lead}
use Rattle.raft_node_joint.proofs.reopening.cleanings_lead_on.Goals as goal

pub returns-clause-done : goal.returns-clause-done
returns-clause-done g c = cleanings_lead _ _ _

pub returns-clause-stopped : goal.returns-clause-stopped
returns-clause-stopped g c = stopped_cleanings_lead _ _ _ _
