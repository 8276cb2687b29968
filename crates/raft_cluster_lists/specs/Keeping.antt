-- What a cluster keeps of a group's list: whichever of the states that its nodes may be in they are in, its history leads to a
-- world of which that is the list.
use Rattle.std.specs.Prelude.{◌≡◌, ◌⊎◌, ℕ, List, [], ◌∷◌, ◌++◌, length, Option, Some, None, Contains}
use Rattle.raft_group_step.specs.Values.{Entry, EntryPayload, Membership}
use Rattle.raft_laws.specs.BallotLists.{AgreeBelow, with_value}
use Rattle.raft_laws.specs.GroupWorld.{GroupWorld, NodeState}
use Rattle.raft_laws.specs.OneList.{AreNodeIds}
use Rattle.raft_laws.specs.Settled.{group_list}
use Rattle.raft_machines.specs.Machine.{MachineRules}
use Rattle.raft_headline.specs.ClusterEvent.{Recorded}
use Rattle.raft_headline.specs.Headline.{KeepsHeadline}
use Rattle.raft_headline.specs.Machines.{Replicas, new_replicas}
use Rattle.raft_headline.specs.Replaying.{ReplaysFor, StepsTo}
use Rattle.raft_headline.specs.Seen.{seen_by}
use Rattle.raft_cluster_laws.specs.Acts.{EventLeads}
use Rattle.raft_cluster_laws.specs.Kept.{AreAmong, Candidates, LeadsTo, new_candidates}
use Rattle.raft_group_lists.specs.Notes.{Notes, accounts_of, no_notes}
use Rattle.raft_list_steps.specs.Lists.{IsListOf, IsSetUpAhead}
use Rattle.raft_list_reports.specs.Told.{AreStops}

-- ---- a world

-- what is kept of a group: its notes, what the call writes that stopped at each node last, and the set-ups that were asked for
pub record GroupNotes : Type 0 where
  pub notes : Notes
  pub stopped : ℕ → Option EntryPayload
  pub asked : List Membership

-- this is noted of the world, but for a set-up that was asked for and not taken
abbrev pub IsNotedOf : Notes → List Membership → GroupWorld → Type 0
IsNotedOf s asked w = IsListOf s w ⊎ ((ahead : IsSetUpAhead s w) × Contains asked ahead.membership)

-- and this is what calls write that stopped there
pub record AreNotesOf (k : GroupNotes) (w : GroupWorld) : Type 0 where
  pub list : IsNotedOf k.notes k.asked w
  pub stops : AreStops k.stopped w

-- a group that isn't kept wasn't set up, and of such a one nothing is noted
pub record IsUntouched (w : GroupWorld) : Type 0 where
  pub list : IsListOf no_notes w
  pub none : w.setup ≡ None

abbrev pub IsKeptIn : Option GroupNotes → GroupWorld → Type 0
IsKeptIn None w = IsUntouched w
IsKeptIn (Some k) w = AreNotesOf k w

abbrev pub list_in : Option GroupNotes → List Entry
list_in None = []
list_in (Some k) = (accounts_of k.notes).list

module _ (rules : MachineRules) (ids : List ℕ) (h : ℕ) where
  -- ---- a history

  -- the history leads to replicas whose nodes are these, and this is kept of their world
  pub record LeadsToList (history : List Recorded) (kept : Option GroupNotes) (states : ℕ → NodeState) : Type 0 where
    pub leads : LeadsTo rules ids h history states
    pub kept_there : IsKeptIn kept leads.end.world

  -- it does so for each choice among the candidates, and there is one
  pub record KeepsList (candidates : Candidates) (history : List Recorded) (kept : Option GroupNotes) : Type 0 where
    pub one : ℕ → NodeState
    pub among : AreAmong candidates one
    pub leads : (states : ℕ → NodeState) → AreAmong candidates states → LeadsToList history kept states

  -- ---- an event

  -- what the group sees of an event takes node n from one of the states that it may have been in to one in which it may be now
  pub record IsEventThere (history : List Recorded) (r : Recorded) (n : ℕ) (olds news : List NodeState) (old new : Replicas) : Type 0 where
    pub run : ReplaysFor rules h (new_replicas rules ids) history old
    pub number : ℕ
    pub step : StepsTo rules h (seen_by h r) r number old new
    pub before : Contains olds (old.world.nodes n)
    pub behind : Contains news (new.world.nodes n)

  -- wherever the event leads, what was kept of the world before it goes on as what is kept of the one behind it
  abbrev pub GoesOn : List Recorded → Recorded → ℕ → List NodeState → List NodeState → Option GroupNotes → Option GroupNotes → Type 0
  GoesOn history r n olds news kept next =
      (old new : Replicas) → IsEventThere history r n olds news old new → IsKeptIn kept old.world → IsKeptIn next new.world

-- ---- the laws

-- a new cluster keeps nothing
abbrev pub NewListsAreKept : Type 0
NewListsAreKept = (rules : MachineRules) (ids : List ℕ) → AreNodeIds ids → (h : ℕ) → KeepsList rules ids h (new_candidates ids) [] None

-- once a group is kept, nothing is noted of it yet
abbrev pub ListsBegin : Type 0
ListsBegin =
    (rules : MachineRules) (ids : List ℕ) → AreNodeIds ids → (h : ℕ) (candidates : Candidates) (history : List Recorded)
    → KeepsList rules ids h candidates history None → (k : GroupNotes) → k.notes ≡ no_notes → KeepsList rules ids h candidates history (Some k)

-- an event of one node: what was kept of a group goes on with it
abbrev pub EventsKeepLists : Type 0
EventsKeepLists =
    (rules : MachineRules) (ids : List ℕ) → AreNodeIds ids → (h : ℕ) (candidates : Candidates) (history : List Recorded)
    → (kept next : Option GroupNotes) → KeepsList rules ids h candidates history kept
    → (r : Recorded) (n : ℕ) (news : List NodeState) → EventLeads rules h n r history (candidates n) news
    → GoesOn rules ids h history r n (candidates n) news kept next
    → KeepsList rules ids h (with_value candidates n news) (history ++ r ∷ []) next

-- the list before the event is a front of the one behind it
abbrev pub ListsGrow : Type 0
ListsGrow =
    (rules : MachineRules) (ids : List ℕ) → AreNodeIds ids → (h : ℕ) (candidates : Candidates) (history : List Recorded)
    → (kept next : Option GroupNotes) → KeepsList rules ids h candidates history kept
    → (r : Recorded) (n : ℕ) (news : List NodeState) → EventLeads rules h n r history (candidates n) news
    → GoesOn rules ids h history r n (candidates n) news kept next
    → AgreeBelow (length (list_in kept)) (list_in kept) (list_in next)

-- whichever of its candidates the nodes are in, the history keeps the headline there, and the list is the one that it speaks of
abbrev pub KeptListsAreTheGroups : Type 0
KeptListsAreTheGroups =
    (rules : MachineRules) (ids : List ℕ) → AreNodeIds ids → (h : ℕ) (candidates : Candidates) (history : List Recorded)
    → (kept : Option GroupNotes) → KeepsList rules ids h candidates history kept
    → (states : ℕ → NodeState) → AreAmong candidates states
    → (leads : LeadsTo rules ids h history states) × KeepsHeadline rules ids h history leads.end × (list_in kept ≡ group_list leads.end.world)
