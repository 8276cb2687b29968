-- How a new group comes to a node.
use Rattle.std.specs.Prelude.{◌≡◌, ℕ, true, Result, Ok, Err}
use Rattle.raft_group_step.specs.GroupEvent.{AddGroup}
use Rattle.raft_group_step.specs.GroupState.{no_group, state_of}
use Rattle.raft_group_step.specs.StoredGroup.{Snapshot}
use Rattle.raft_messages.specs.declared.memberships.SnapshotBytes.{SnapshotBytes}
use Rattle.raft_machines.specs.Machine.{MachineRules}
use Rattle.raft_node_faults.specs.declared.fault.Cause.{Cause}
use Rattle.raft_node_faults.specs.declared.fault.Cause.TheVariants as cause
use Rattle.raft_node_faults.specs.declared.fault.Fault.{Fault}
use Rattle.raft_node_faults.specs.declared.fault.Fault.TheVariants as fault
use Rattle.raft_node.specs.Ending.{IsDone, IsLeft}
use Rattle.raft_node.specs.Standing.{NodeValue}
use Rattle.raft_node.specs.declared.outcome.Outcome.{Outcome}

-- no frame is the cause: nothing is sent
abbrev pub IsUnframed : {F : Type 0} → Cause F → Type 0
IsUnframed (cause.Frame why) = ⊥
IsUnframed other = Unit {0}

-- a group of which nothing was there is there, or the node stopped and it is stored or not
abbrev pub IsAdded : {F : Type 0} → MachineRules → (SnapshotBytes → Snapshot → Type 0) → NodeValue → ℕ → Result Outcome (Fault F) → Type 0
IsAdded rules stands n group (Ok o) = IsDone rules stands n group (state_of no_group) AddGroup o
IsAdded rules stands n group (Err (fault.Stopped why unknown)) = (n.groups.has_failed ≡ true) × IsLeft n group (state_of no_group) AddGroup × IsUnframed why
IsAdded rules stands n group (Err other) = ⊥

-- it is refused so, unless the node stopped as the storage was asked
abbrev pub IsRefusedOrStops : {T F : Type 0} → Fault F → Result T (Fault F) → Type 0
IsRefusedOrStops why (Ok o) = ⊥
IsRefusedOrStops why (Err (fault.Stopped cause unknown)) = Unit {0}
IsRefusedOrStops why (Err other) = other ≡ why
