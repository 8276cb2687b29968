use Rattle.raft_node_joint.proofs.AddingsLeadOn.{addings_lead}
use Rattle.raft_node_joint.proofs.EventsLeadOn.{events_lead}
use Rattle.raft_node_joint.proofs.FramesLeadOn.{frames_lead}
use Rattle.raft_node_joint.proofs.leading.events_lead_on.Goals as goal

pub returns-clause-calls : goal.returns-clause-calls
returns-clause-calls g c group ge = events_lead _ _ _ _ _ group ge _

pub returns-clause-addings : goal.returns-clause-addings
returns-clause-addings g c group = addings_lead _ _ _ _ _ group _

pub returns-clause-frames : goal.returns-clause-frames
returns-clause-frames g c frame peer now = frames_lead _ _ _ _ _ frame now _
