-- Those of the first so many that are waited for.
use Rattle.std.proofs.Common.{◌≡◌, take}
use Rattle.std.specs.Prelude.{false}
use Rattle.raft_group_step.specs.GroupState.{GroupState}
use Rattle.raft_laws.specs.GroupWorld.{Up}
use Rattle.raft_framed_groups.specs.Answers.{Stands}
use Rattle.raft_node.specs.Standing.{value_of}
use Rattle.raft_node_clock.specs.View.{waiting_in}
use Rattle.raft_node_clock.proofs.view.waiting_for.Given as goal

abbrev pub invariant-loop-peer : goal.invariant-loop-peer
invariant-loop-peer g l = (s : GroupState) → l.node.groups.has_failed ≡ false
    → Stands (value_of g.M.StateMachine.state g.S.GroupStorage.is_well g.S.GroupStorage.shows g.S.GroupStorage.fails l.node).groups l.group (Up s)
    → l.waiting.items ≡ waiting_in s (take l.peer-index l.peers)
