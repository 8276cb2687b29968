-- What a node over a log may be in a group.
use Rattle.std.specs.Prelude.{◌≡◌, ℕ, false, List, ◌∷◌, map, Option, Some, None}
use Rattle.raft_group_step.specs.StoredGroup.{StoredGroup}
use Rattle.raft_laws.specs.GroupWorld.{Down, NodeState}
use Rattle.raft_machines.specs.Machine.{MachineRules}
use Rattle.raft_node.specs.Standing.{NodeValue, value_of}
use Rattle.raft_node.specs.declared.node.Node.{Node}
use Rattle.raft_node_joint.specs.Standing.{MayBe}
use Rattle.raft_wire.specs.Stream.{fresh}
use Rattle.raft_nodes_on_logs.specs.Kept.{AreShownDown, Keeping, KeepingFault, fails, is_well, shows}
use Rattle.raft_nodes_on_logs.specs.Kinds.{NodeKind}
use Rattle.raft_nodes_on_logs.specs.declared.log_node.LogNode.{LogNode}

-- It has the id, and may be in these states of the group. One that goes on has nothing of a peer's stream, whose frames come whole
pub record MayBeUp (rules : MachineRules) (id : ℕ) (n : NodeValue) (group : ℕ) (states : List NodeState) : Type 0 where
  pub own : n.groups.own ≡ id
  pub may_be : MayBe rules n group states
  pub streams : n.groups.has_failed ≡ false → (peer : ℕ) → n.streams peer ≡ fresh

module _ (k : NodeKind) where
  -- a node of this kind, and one that is up
  abbrev pub NodeOf : Type 0
  NodeOf = LogNode k.Machine k.Log k.Files k.Settings k.Fault k.Choice k.Refusal k.machine

  abbrev pub UpNode : Type 0
  UpNode = Node k.Machine (Keeping k) (KeepingFault k) k.machine

  -- in plain words
  abbrev pub value : UpNode → NodeValue
  value n = value_of k.state (is_well k) (shows k) (fails k) n

  -- it is down, and its files show one of these
  pub record MayBeDown (files : k.Files) (group : ℕ) (states : List NodeState) : Type 0 where
    pub one : StoredGroup
    pub more : List StoredGroup
    pub parts : states ≡ Down one ∷ map Down more
    pub shown : AreShownDown k files group (one ∷ more)

  abbrev pub MayBeIn : ℕ → Option UpNode → k.Files → ℕ → List NodeState → Type 0
  MayBeIn id None files group states = MayBeDown files group states
  MayBeIn id (Some n) files group states = MayBeUp k.rules id (value n) group states

  abbrev pub log_node_may_be : NodeOf → ℕ → List NodeState → Type 0
  log_node_may_be n group states = MayBeIn n.id n.up n.files group states
