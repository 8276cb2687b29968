-- What a cluster of nodes that keep the law promises: its history, in plain values, carries the headline of each group.
use Rattle.std.specs.Prelude.{◌≡◌, ℕ, not, Bool, false, List, [], map, filter, Option, Some, None}
use Rattle.std.specs.List.{AllByRecursion, AllZip}
use Rattle.raft_laws.specs.GroupWorld.{NodeState}
use Rattle.raft_machines.specs.Machine.{MachineRules}
use Rattle.raft_headline.specs.ClusterEvent.{Recorded as PlainRecord}
use Rattle.raft_headline.specs.Headline.{KeepsHeadline}
use Rattle.raft_cluster_laws.specs.Along.{sent_by}
use Rattle.raft_cluster_laws.specs.Kept.{AreAmong, Candidates, IsKept, LeadsTo}
use Rattle.raft_cluster_events.specs.declared.outcome.Recorded.{Recorded}
use Rattle.raft_cluster_events.specs.Node.{NodeActs}
use Rattle.raft_cluster_events.specs.States.{NodeStates}
use Rattle.raft_node_laws.specs.Reporting.{IsReport, IsSentAs}
use Rattle.raft_cluster.specs.Cluster.{IsNew, RunsTo, nothing_sent}
use Rattle.raft_cluster.specs.Facts.{Sent, node_in}

module _ {N : Type 0} (acts : NodeActs N) where
  abbrev pub ids_of : List N → List ℕ
  ids_of nodes = map acts.id nodes

  abbrev pub is_down : Option N → Bool
  is_down None = false
  is_down (Some node) = not (acts.is_up node)

  -- those of the nodes that are down
  abbrev pub downs_of : List N → List ℕ
  downs_of nodes = filter (λ n. is_down (node_in acts nodes n)) (ids_of nodes)

module _ {N : Type 0} (rules : MachineRules) (acts : NodeActs N) (states : NodeStates N) where
  -- these nodes, and the frames that they sent, are what a plain history leads to: whichever of these states of a group they are in,
  -- it leads there, each node is in one of its own, and each frame says its message
  pub record StandAs (ids : List ℕ) (nodes : List N) (sent : Sent) (plain : List PlainRecord) : Type 0 where
    pub candidates : ℕ → Candidates
    pub kept : IsKept rules ids candidates plain
    pub may_be : (n : ℕ) (node : N) → node_in acts nodes n ≡ Some node → (h : ℕ) → states.may_be node h (candidates h n)
    pub frames : (h : ℕ) → AllZip (IsSentAs states.spells h) (sent h) (sent_by h plain)

  -- a history, from nodes of which these were down at first
  pub record IsToldOf (ids downs : List ℕ) (nodes : List N) (sent : Sent) (history : List Recorded) : Type 0 where
    pub plain : List PlainRecord
    pub report : IsReport downs history plain
    pub stand : StandAs ids nodes sent plain
    pub same_ids : ids_of acts nodes ≡ ids

  -- the plain history leads to the nodes and frames that there are, and keeps the headline of each group, whichever of the states in
  -- which the nodes may be they are in
  pub record HasHeadline (nodes : List N) (sent : Sent) (history : List Recorded) : Type 0 where
    pub first : List N
    pub new : AllByRecursion (IsNew acts) first
    pub runs : RunsTo acts first nothing_sent [] history nodes sent
    pub told : IsToldOf (ids_of acts first) (downs_of acts first) nodes sent history
    pub headline : (h : ℕ) (choice : ℕ → NodeState) → AreAmong (told.stand.candidates h) choice
        → (leads : LeadsTo rules (ids_of acts first) h told.plain choice) × KeepsHeadline rules (ids_of acts first) h told.plain leads.end
