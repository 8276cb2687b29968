-- The law of machines is each machine's.
use Rattle.raft_node_joint.proofs.MachinesLaw.{runs_keep}
use Rattle.raft_node_joint.proofs.machines.machines_keep_their_law.Goals as goal

pub returns : goal.returns
returns g c = record {
  new = g.met.M.StateMachine.begins;
  running = λ h r is. runs_keep g.M.StateMachine.rules g.M.StateMachine.state g.met.M.StateMachine.restores c.args.node.now.machines h r is;
}
