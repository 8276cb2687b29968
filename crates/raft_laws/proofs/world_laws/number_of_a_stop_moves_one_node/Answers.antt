use Rattle.raft_laws.proofs.Numbers.{number-moves-one-node}
use Rattle.raft_laws.proofs.world_laws.number_of_a_stop_moves_one_node.Goals as goal

pub returns : goal.returns
returns c = number-moves-one-node
