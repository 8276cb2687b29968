use Rattle.raft_node_joint.proofs.NoStops.{refused_events_dont_stop}
use Rattle.raft_node_joint.proofs.leading.refused_events_dont_stop.Goals as goal

pub returns : goal.returns
returns c = refused_events_dont_stop
