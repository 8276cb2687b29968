-- Each of these is what the node's call says.
use Rattle.raft_nodes_on_files.proofs.StopLemmas.{stop_as_asked}
use Rattle.raft_nodes_on_files.proofs.stops.file_nodes_stop_as_asked.Goals as goal

pub returns : goal.returns
returns g c = stop_as_asked g.M.StateMachine g.M.StateMachine.rules g.M.StateMachine.state
