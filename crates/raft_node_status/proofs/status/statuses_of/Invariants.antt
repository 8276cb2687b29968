use Rattle.std.proofs.Common.{◌≡◌, map, take}
use Rattle.raft_group_step.specs.GroupState.{GroupState}
use Rattle.std.specs.Prelude.{false}
use Rattle.raft_laws.specs.GroupWorld.{Up}
use Rattle.raft_framed_groups.specs.Answers.{Stands}
use Rattle.raft_node.specs.Standing.{value_of}
use Rattle.raft_node_status.specs.Status.{peer_status}
use Rattle.raft_node_status.proofs.status.statuses_of.Given as goal

abbrev pub invariant-loop-id : goal.invariant-loop-id
invariant-loop-id g l = (s : GroupState) → l.node.groups.has_failed ≡ false
    → Stands (value_of g.M.StateMachine.state g.S.GroupStorage.is_well g.S.GroupStorage.shows g.S.GroupStorage.fails l.node).groups l.group (Up s)
    → l.peers.items ≡ map (peer_status s) (take l.id-index l.ids)
