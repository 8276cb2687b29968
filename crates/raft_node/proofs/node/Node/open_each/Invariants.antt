-- The groups so far are opened, and the others are still to come.
use Rattle.std.proofs.Common.{◌≡◌, ℕ, None, drop}
use Rattle.raft_group_step.specs.StoredGroup.{StoredGroup}
use Rattle.raft_applier.specs.Following.{AreOfMachine}
use Rattle.raft_node.specs.Opening.{AreThere, IsBegun}
use Rattle.raft_node.specs.Standing.{value_of}
use Rattle.raft_node.proofs.Openings.{IsOpening}
use Rattle.raft_node.proofs.node.Node.open_each.Given as goal

abbrev pub invariant-loop-group : goal.invariant-loop-group
invariant-loop-group g l =
    (l.self.groups.id ≡ l.initial.self.groups.id)
    × (l.self.groups.has_failed ≡ l.initial.self.groups.has_failed)
    × (l.self.feeders ≡ l.initial.self.feeders)
    × ((kept : ℕ → StoredGroup) → AreOfMachine g.M.StateMachine.rules g.S.GroupStorage.stands
    → IsBegun (value_of g.M.StateMachine.state g.S.GroupStorage.is_well g.S.GroupStorage.shows g.S.GroupStorage.fails l.initial.self) kept → AreThere kept l.groups
    → IsOpening g.M.StateMachine.rules kept g.S.GroupStorage.stands (value_of g.M.StateMachine.state g.S.GroupStorage.is_well g.S.GroupStorage.shows g.S.GroupStorage.fails l.self) l.groups (drop l.group-index l.groups) l.outcomes.items)
    × g.S.GroupStorage.meets l.initial.self.groups.storage l.self.groups.storage None
