use Rattle.std.specs.Prelude.{option_map, refl}
use Rattle.std.proofs.Common.{ap}
use Rattle.std.specs.Option.{option_copied}
use Rattle.raft_node.specs.Reading.{machine_in}
use Rattle.raft_node.specs.Standing.{running_in}
use Rattle.raft_nodes_on_logs.proofs.Lending.{told_unless}
use Rattle.raft_nodes_on_logs.proofs.readers.machine_of.Goals as goal

pub returns : goal.returns
returns g c =
    let state = g.M.StateMachine.state in
    let told = option_map state (option_copied c.machine.result) in
    told_unless c.args.node.now.groups.has_failed (running_in state c.args.node.now.machines c.args.group) machine_in told refl
    (λ gone. ap (λ o. option_map state (option_copied o)) (c.machine.ensures.failed gone)) c.machine.ensures.going
