use Rattle.raft_node_joint.proofs.EventsCome.{addings_come, calls_come, messages_come}
use Rattle.raft_node_joint.proofs.coming.events_come_to_their_groups.Goals as goal

pub returns-clause-addings : goal.returns-clause-addings
returns-clause-addings c = addings_come

pub returns-clause-calls : goal.returns-clause-calls
returns-clause-calls c = calls_come

pub returns-clause-messages : goal.returns-clause-messages
returns-clause-messages c = messages_come
