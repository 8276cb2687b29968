use Rattle.raft_node_joint.proofs.OwnMessages.{own_messages}
use Rattle.raft_node_joint.proofs.reopening.nodes_send_their_own.Goals as goal

pub returns : goal.returns
returns c = own_messages
