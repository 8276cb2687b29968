use Rattle.std.specs.Prelude.{refl}
use Rattle.raft_node.specs.Reading.{place_in}
use Rattle.raft_node.specs.Standing.{running_in}
use Rattle.raft_nodes_on_logs.proofs.Lending.{told_unless}
use Rattle.raft_nodes_on_logs.proofs.readers.place_of.Goals as goal

pub returns : goal.returns
returns g c =
    let state = g.M.StateMachine.state in
    told_unless c.args.node.now.groups.has_failed (running_in state c.args.node.now.machines c.args.group) place_in c.applied.result refl
    c.applied.ensures.failed c.applied.ensures.going
