use Rattle.raft_node.specs.Standing.{value_of}
use Rattle.raft_node_joint.proofs.StatesStay.{but_stays, same_stays}
use Rattle.raft_node_joint.proofs.leading.states_stay.Goals as goal

pub returns-clause-same : goal.returns-clause-same
returns-clause-same g c is = same_stays _ (value_of g.M.StateMachine.state g.S.GroupStorage.is_well g.S.GroupStorage.shows g.S.GroupStorage.fails) c.args.before.now c.args.behind.now is

pub returns-clause-but_streams : goal.returns-clause-but_streams
returns-clause-but_streams g c peer same = but_stays _ _ _ peer same
