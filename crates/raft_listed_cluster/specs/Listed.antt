-- What a cluster promises that keeps the list of each group: the headline speaks of these lists.
use Rattle.std.specs.Prelude.{◌≡◌, ℕ, List, [], length, Some, Contains}
use Rattle.std.specs.List.{AllByRecursion}
use Rattle.raft_group_step.specs.Values.{Entry}
use Rattle.raft_laws.specs.BallotLists.{AgreeBelow}
use Rattle.raft_laws.specs.GroupWorld.{NodeState}
use Rattle.raft_laws.specs.Settled.{group_list}
use Rattle.raft_machines.specs.Machine.{MachineRules}
use Rattle.raft_headline.specs.Headline.{KeepsHeadline}
use Rattle.raft_cluster_laws.specs.Kept.{AreAmong, LeadsTo}
use Rattle.raft_sent_frames.specs.Frames.{frames_of}
use Rattle.raft_cluster_events.specs.Node.{NodeActs}
use Rattle.raft_cluster_events.specs.States.{NodeStates}
use Rattle.raft_node_laws.specs.Law.{Lends}
use Rattle.raft_cluster_lists.specs.declared.kept.KeptGroup.{KeptGroup}
use Rattle.raft_cluster_lists.specs.Groups.{entries_of, kept_in}
use Rattle.raft_cluster.specs.Cluster.{ClusterValue, IsNew, RunsTo, nothing_sent}
use Rattle.raft_cluster.specs.Facts.{node_in}
use Rattle.raft_cluster.specs.Joined.{IsToldOf, downs_of, ids_of}

-- a cluster, and what it keeps of each group
pub record ListedValue (N : Type 0) : Type 0 where
  pub cluster : ClusterValue N
  pub groups : List KeptGroup

-- the list of each group
abbrev pub Lists : Type 0
Lists = ℕ → List Entry

-- as it is kept
abbrev pub lists_of : List KeptGroup → Lists
lists_of groups h = entries_of (kept_in groups h)

module _ {N : Type 0} (rules : MachineRules) (acts : NodeActs N) (states : NodeStates N) where
  -- The plain history leads to the nodes and frames that there are. Whichever of the states in which the nodes may be they are in, it
  -- keeps the headline of each group, and this is the group's list there: all that was chosen.
  pub record HasLists (now : ListedValue N) : Type 0 where
    pub first : List N
    pub new : AllByRecursion (IsNew acts) first
    pub runs : RunsTo acts first nothing_sent [] now.cluster.history now.cluster.nodes (frames_of now.cluster.sent)
    pub told : IsToldOf rules acts states (ids_of acts first) (downs_of acts first) now.cluster.nodes (frames_of now.cluster.sent) now.cluster.history
    pub lists : (h : ℕ) (choice : ℕ → NodeState) → AreAmong (told.stand.candidates h) choice
        → (leads : LeadsTo rules (ids_of acts first) h told.plain choice)
        × KeepsHeadline rules (ids_of acts first) h told.plain leads.end × (lists_of now.groups h ≡ group_list leads.end.world)
    -- and the machine that a node lends of a group has run all that it has applied in the state that it is in
    pub lends : (n : ℕ) (node : N) → node_in acts now.cluster.nodes n ≡ Some node → (h : ℕ) (s : NodeState) → Contains (told.stand.candidates h n) s
        → Lends rules s (acts.machine_of node h) (acts.applied_of node h)

-- each list before is a front of the one behind it
abbrev pub OnlyGrow : Lists → Lists → Type 0
OnlyGrow before behind = (h : ℕ) → AgreeBelow (length (before h)) (before h) (behind h)
