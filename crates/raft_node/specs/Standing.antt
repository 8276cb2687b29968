-- What a node is in a group: its member and what is stored, and what its machine has run.
use Rattle.std.specs.Prelude.{ℕ, List, [], Option, Some, None}
use Rattle.std.specs.Ordering.{nat_cmp}
use Rattle.std.specs.BTreeMap.{get}
use Rattle.raft_group_step.specs.StoredGroup.{StoredGroup}
use Rattle.raft_group_step.specs.GroupState.{GroupState, Untold}
use Rattle.raft_group_storage.specs.Keeping.{Fails}
use Rattle.raft_laws.specs.GroupWorld.{Up}
use Rattle.raft_framed_groups.specs.Answers.{Node, Stands}
use Rattle.raft_machines.specs.Machine.{MachineRules}
use Rattle.raft_machines.specs.declared.machine.StateMachine.{Ghosts}
use Rattle.raft_wire.specs.Stream.{Feeding, FeederValue, fresh}
use Rattle.raft_machines.specs.declared.telling.Untold.{Untold as AnUntold}
use Rattle.raft_applier.specs.declared.applier.Applier.{Applier}
use Rattle.raft_node.specs.Running.{Running, RunsAt, running_at}
use Rattle.raft_node.specs.Waiting.{one_more}
use Rattle.raft_node.specs.declared.machines.Machines.{Machines}
use Rattle.raft_node.specs.declared.node.Node.{Node as ANode}

-- a node: its groups' members and what is stored, what runs for each of them, and what is held of each peer's stream
pub record NodeValue : Type 1 where
  pub groups : Node
  pub running : ℕ → Option Running
  pub streams : ℕ → Feeding

-- what is held of a peer's stream; of one that hasn't begun nothing
abbrev pub feeding_of : Option FeederValue → Feeding
feeding_of None = fresh
feeding_of (Some f) = f.feeding

-- what is applied of the group; nothing at a node that has failed
abbrev pub applier_in : {M : Type 0} {g : Ghosts M} → Option (Machines M g) → ℕ → Option (Applier M)
applier_in None group = None
applier_in (Some m) group = get nat_cmp m.appliers group

-- one token more, where there is room for it
abbrev pub one_more_in : {M : Type 0} {g : Ghosts M} → Option (Machines M g) → ℕ → ℕ → AnUntold → List Untold
one_more_in None other group x = []
one_more_in (Some m) other group x = one_more other group x

-- what runs for the group
abbrev pub running_in : {M : Type 0} {g : Ghosts M} → (M → List ℕ) → Option (Machines M g) → ℕ → Option Running
running_in state None group = None
running_in state (Some m) group = running_at state m.appliers group

-- a node in these words, where a machine's state is this, and a storage is well, shows this and may have failed so
abbrev pub value_of : {M S F : Type 0} {g : Ghosts M} → (M → List ℕ) → (S → Type 0) → (S → ℕ → List StoredGroup → Type 0) → (S → Fails) → ANode M S F g → NodeValue
value_of state is_well shows fails n = record {
  groups = record {
    own = n.groups.id;
    has_failed = n.groups.has_failed;
    members = get nat_cmp n.groups.members;
    is_well = is_well n.groups.storage;
    shows = shows n.groups.storage;
    fails = fails n.groups.storage;
  };
  running = running_in state n.machines;
  streams = λ peer. feeding_of (get nat_cmp n.feeders peer);
}

-- the node is up in this state of the group, and its machine has run what is applied there
pub record IsAt (rules : MachineRules) (n : NodeValue) (group : ℕ) (s : GroupState) : Type 0 where
  pub up : Stands n.groups group (Up s)
  pub runs : RunsAt rules (n.running group) s
