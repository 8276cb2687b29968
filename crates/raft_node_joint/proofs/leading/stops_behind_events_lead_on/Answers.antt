use Rattle.raft_node_joint.proofs.StopsBehind.{stops_behind_lead}
use Rattle.raft_node_joint.proofs.WereDone.{addings_done, events_done, frames_done}
use Rattle.raft_node_joint.proofs.leading.stops_behind_events_lead_on.Goals as goal

pub returns-clause-stops : goal.returns-clause-stops
returns-clause-stops g c group ge = stops_behind_lead _ _ _ _ _ group ge c.args.outcome.now c.args.fault.now

pub returns-clause-calls : goal.returns-clause-calls
returns-clause-calls g c group ge = events_done _ _ _ _ _ _ _ group ge

pub returns-clause-addings : goal.returns-clause-addings
returns-clause-addings g c group = addings_done _ _ _ _ _ _ _ group

pub returns-clause-frames : goal.returns-clause-frames
returns-clause-frames g c frame peer now = frames_done _ _ _ _ _ _ _ frame now
