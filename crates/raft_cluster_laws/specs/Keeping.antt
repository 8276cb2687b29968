-- How a cluster's type is kept from event to event, and what it gives.
use Rattle.std.specs.Prelude.{◌≡◌, ℕ, List, [], ◌∷◌, ◌++◌, Contains}
use Rattle.raft_group_step.specs.GroupState.{GroupState}
use Rattle.raft_laws.specs.declared.world_event.WorldEvent.{WorldEvent}
use Rattle.raft_laws.specs.BallotLists.{with_value}
use Rattle.raft_laws.specs.GroupWorld.{NodeState, Up}
use Rattle.raft_laws.specs.GroupWorld.{Recorded as GroupRecorded}
use Rattle.raft_laws.specs.GroupRun.{scene_of}
use Rattle.raft_laws.specs.OneList.{AreNodeIds, IsGroupHistory, applied_list}
use Rattle.raft_laws.specs.Settled.{group_list}
use Rattle.raft_machines.specs.Machine.{MachineRules}
use Rattle.raft_machines.specs.Fold.{fold_of}
use Rattle.raft_headline.specs.ClusterEvent.{Recorded}
use Rattle.raft_headline.specs.Headline.{IsAppliedFront, KeepsHeadline}
use Rattle.raft_headline.specs.Machines.{Replicas, new_replicas}
use Rattle.raft_headline.specs.Replaying.{ReplaysFor}
use Rattle.raft_cluster_laws.specs.Acts.{EventLeads}
use Rattle.raft_cluster_laws.specs.Along.{scene_behind, sent_by, setup_by}
use Rattle.raft_cluster_laws.specs.Kept.{AreAmong, Candidates, IsKept, IsKeptFor, LeadsTo, new_candidates}

-- a new cluster's history is empty
abbrev pub NewIsKept : Type 0
NewIsKept = (rules : MachineRules) (ids : List ℕ) → AreNodeIds ids → IsKept rules ids (λ h. new_candidates ids) []

-- an event of one node: what was kept of a group is kept, with that node's new candidates and the
-- event
abbrev pub EventsAreKept : Type 0
EventsAreKept =
    (rules : MachineRules) (ids : List ℕ) → AreNodeIds ids → (h : ℕ) (candidates : Candidates) (history : List Recorded)
    → IsKeptFor rules ids h candidates history
    → (r : Recorded) (n : ℕ) (news : List NodeState) → EventLeads rules h n r history (candidates n) news
    → IsKeptFor rules ids h (with_value candidates n news) (history ++ r ∷ [])

-- so for every group at once
abbrev pub EventsAreKeptByAll : Type 0
EventsAreKeptByAll =
    (rules : MachineRules) (ids : List ℕ) (candidates : ℕ → Candidates) (history : List Recorded)
    → IsKept rules ids candidates history
    → (r : Recorded) (n : ℕ) (news : ℕ → List NodeState)
    → ((h : ℕ) → EventLeads rules h n r history (candidates h n) (news h))
    → IsKept rules ids (λ h. with_value (candidates h) n (news h)) (history ++ r ∷ [])

-- fewer candidates are kept, too: a crash picks some of those that a storage may show
abbrev pub FewerAreKept : Type 0
FewerAreKept =
    (rules : MachineRules) (ids : List ℕ) (h : ℕ) (candidates fewer : Candidates) (history : List Recorded)
    → IsKeptFor rules ids h candidates history
    → (one : ℕ → NodeState) → AreAmong fewer one
    → ((n : ℕ) (s : NodeState) → Contains (fewer n) s → Contains (candidates n) s)
    → IsKeptFor rules ids h fewer history

-- whichever of its candidates the nodes are in, the history keeps the headline there
abbrev pub KeptIsHeadline : Type 0
KeptIsHeadline =
    (rules : MachineRules) (ids : List ℕ) → AreNodeIds ids → (h : ℕ) (candidates : Candidates) (history : List Recorded)
    → IsKeptFor rules ids h candidates history
    → (states : ℕ → NodeState) → AreAmong candidates states
    → (leads : LeadsTo rules ids h history states) × KeepsHeadline rules ids h history leads.end

-- there a machine that has run all that its node applied is the fold of the group's list up to there
abbrev pub CandidatesHaveApplied : Type 0
CandidatesHaveApplied =
    (rules : MachineRules) (ids : List ℕ) → AreNodeIds ids → (h : ℕ) (history : List Recorded) (states : ℕ → NodeState)
    → (leads : LeadsTo rules ids h history states)
    → (n : ℕ) (s : GroupState) → states n ≡ Up s
    → IsAppliedFront rules (group_list leads.end.world) s (fold_of rules (applied_list s))

-- a candidate of a node stands at it in a world to which a history of the group leads, whose
-- messages, set-up and scenes are those that the cluster's history says
pub record StandsInWorld (rules : MachineRules) (ids : List ℕ) (h : ℕ) (history : List Recorded) (n : ℕ) (s : NodeState) : Type 0 where
  pub end : Replicas
  pub replays : ReplaysFor rules h (new_replicas rules ids) history end
  pub group : List GroupRecorded
  pub is_history : IsGroupHistory ids group end.world
  pub node : end.world.nodes n ≡ s
  pub messages : end.world.messages ≡ sent_by h history
  pub setup : end.world.setup ≡ setup_by h history
  pub scenes : (e : WorldEvent) → scene_of end.world e ≡ scene_behind h history e

abbrev pub CandidatesStand : Type 0
CandidatesStand =
    (rules : MachineRules) (ids : List ℕ) → AreNodeIds ids → (h : ℕ) (candidates : Candidates) (history : List Recorded)
    → IsKeptFor rules ids h candidates history
    → (n : ℕ) (s : NodeState) → Contains (candidates n) s → StandsInWorld rules ids h history n s
