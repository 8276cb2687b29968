use Rattle.raft_node_joint.proofs.ResetsLeadOn.{resets_lead}
use Rattle.raft_node_joint.proofs.reopening.resets_lead_on.Goals as goal

pub returns : goal.returns
returns g c = resets_lead _ _ _
