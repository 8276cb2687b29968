-- Without room the same tokens wait.
use Rattle.std.proofs.Common.{subst}
use Rattle.raft_node.specs.Running.{RunsAt}
use Rattle.raft_node.specs.Standing.{running_in}
use Rattle.raft_node.proofs.node.Node.take_token.Goals as goal

pub returns-in-Some-machines-clause-err : goal.returns-in-Some-machines-clause-err
returns-in-Some-machines-clause-err g c = λ s runs.
    c.take_token.ensures.err s (subst (λ m. RunsAt g.M.StateMachine.rules (running_in g.M.StateMachine.state m c.args.group) s) c.in-Some-machines.is runs)
