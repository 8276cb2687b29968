-- What a node does with an event leads each of its groups on, as a cluster asks it of its nodes.
use Rattle.std.specs.Prelude.{◌≡◌, ℕ, Bool, true, false, List, [], ◌∷◌, slice_get, Some, Result, Ok, Err, Contains, is_some}
use Rattle.raft_group_step.specs.GroupEvent.{AddGroup as Adds}
use Rattle.raft_group_step.specs.GroupEvent.{GroupEvent, Receive}
use Rattle.raft_group_step.specs.GroupState.{GroupState, no_group, state_of}
use Rattle.raft_group_step.specs.Message.{Message}
use Rattle.raft_group_step.specs.Refusal.{refusal_of}
use Rattle.raft_group_step.specs.StepResult.{RefusalReason, UnknownGroup}
use Rattle.raft_group_step.specs.StoredGroup.{Snapshot}
use Rattle.raft_messages.specs.declared.memberships.SnapshotBytes.{SnapshotBytes}
use Rattle.raft_executor.specs.Said.{Says}
use Rattle.raft_laws.specs.GroupWorld.{Absent, NodeState, Up}
use Rattle.raft_headline.specs.ClusterEvent.{AddGroup, ClusterEvent, ClusterOutcome, Deliver, Halt, Recorded, Stopped, Unknown}
use Rattle.raft_applier.specs.Following.{AreOfMachine}
use Rattle.raft_cluster_laws.specs.Acts.{EventLeads}
use Rattle.raft_cluster_laws.specs.Along.{sent_by}
use Rattle.raft_cluster_laws.specs.Keeping.{StandsInWorld}
use Rattle.raft_framed_groups.specs.Answers.{Stands}
use Rattle.raft_machines.specs.Machine.{MachineRules}
use Rattle.raft_node_faults.specs.declared.fault.Cause.{Cause}
use Rattle.raft_node_faults.specs.declared.fault.Fault.{Fault}
use Rattle.raft_node_faults.specs.declared.fault.Fault.TheVariants as fault
use Rattle.raft_wire.specs.declared.frame.Frame.{Frame}
use Rattle.raft_node.specs.Adding.{IsAdded}
use Rattle.raft_node.specs.Ending.{IsDone, IsEvent, IsReached, StaysElse}
use Rattle.raft_node.specs.Feeding.{IsFrame}
use Rattle.raft_node.specs.Settling.{IsTold}
use Rattle.raft_node.specs.Standing.{NodeValue}
use Rattle.raft_node.specs.Waiting.{AreNamed}
use Rattle.raft_node.specs.declared.outcome.Outcome.{Outcome}
use Rattle.raft_node_joint.specs.Coming.{ComesTo}
use Rattle.raft_node_joint.specs.Saying.{SaysCall, names_behind, stops_unjudged}
use Rattle.raft_headline.specs.Naming.{names_in}
use Rattle.raft_node_joint.specs.Standing.{IsUpIn, KeepMachinesLaw, MayBe}

-- ---- before an event, and behind it

-- the node may be in these states of each group, and each of them stands in a world to which the history leads
pub record StandsBefore (rules : MachineRules) (stands : SnapshotBytes → Snapshot → Type 0) (ids : List ℕ) (history : List Recorded)
    (n : NodeValue) (olds : ℕ → List NodeState) : Type 0 where
  pub of_machine : AreOfMachine rules stands
  pub law : KeepMachinesLaw rules n
  pub may_be : (h : ℕ) → MayBe rules n h (olds h)
  pub in_world : (h : ℕ) (s : NodeState) → Contains (olds h) s → StandsInWorld rules ids h history n.groups.own s

-- the node may be in the states in which it may have been
abbrev pub StaysInAll : MachineRules → NodeValue → NodeValue → Type 0
StaysInAll rules old new = (h : ℕ) (states : List NodeState) → MayBe rules old h states → MayBe rules new h states

abbrev pub recorded : ℕ → ClusterEvent → ClusterOutcome → Recorded
recorded n happened o = record { event = happened; node = n; outcome = o }

-- the event with that outcome leads the group from the states in which the node may have been to those in which it may be now
pub record LeadsIn (rules : MachineRules) (history : List Recorded) (happened : ClusterEvent) (o : ClusterOutcome) (old new : NodeValue) (h : ℕ) (olds : List NodeState) : Type 0 where
  pub news : List NodeState
  pub may_be : MayBe rules new h news
  pub leads : EventLeads rules h old.groups.own (recorded old.groups.own happened o) history olds news

-- so in each group, by one outcome that says what the node answered
pub record LeadsOn {F : Type 0} (rules : MachineRules) (stands : SnapshotBytes → Snapshot → Type 0) (history : List Recorded) (happened : ClusterEvent)
    (old new : NodeValue) (group : ℕ) (olds : ℕ → List NodeState) (result : Result Outcome (Fault F)) : Type 0 where
  pub outcome : ClusterOutcome
  pub says : SaysCall stands group result outcome
  pub leads : (h : ℕ) → LeadsIn rules history happened outcome old new h (olds h)

-- ---- calls

-- An event that is refused where the group isn't there leads on. Where the node stopped before it was known whether the event is
-- refused, that is a halt: nothing of the event came to its group
abbrev pub led_by : Bool → ℕ → ClusterEvent → ClusterEvent
led_by true n happened = Halt n
led_by false n happened = happened

abbrev pub EventsLead : {F : Type 0} → MachineRules → (SnapshotBytes → Snapshot → Type 0) → Type 0 → NodeValue → NodeValue → ℕ → GroupEvent → Result Outcome (Fault F) → Type 0
EventsLead rules stands same old new group ge result =
    (ids : List ℕ) (history : List Recorded) (happened : ClusterEvent) (olds : ℕ → List NodeState)
    → ComesTo old.groups.own group history happened ge → refusal_of old.groups.own (state_of no_group) ge ≡ Some UnknownGroup
    → StandsBefore rules stands ids history old olds → (same → StaysInAll rules old new)
    → IsEvent rules stands same old new group ge result
    → LeadsOn rules stands history (led_by (stops_unjudged result) old.groups.own happened) old new group olds result

-- no stop leads on from a state in which the event itself is refused
abbrev pub RefusedEventsDontStop : Type 0
RefusedEventsDontStop =
    (rules : MachineRules) (n group : ℕ) (history : List Recorded) (happened : ClusterEvent) (ge : GroupEvent) (s : GroupState) (why : RefusalReason) (names : List Unknown) (news : List NodeState)
    → ComesTo n group history happened ge → refusal_of n s ge ≡ Some why
    → EventLeads rules group n (recorded n happened (Stopped names)) history (Up s ∷ []) news → ⊥

-- a node that has failed passes an event over
abbrev pub FailedNodesPass : (F : Type 0) → MachineRules → (SnapshotBytes → Snapshot → Type 0) → NodeValue → NodeValue → ℕ → GroupEvent → Type 0
FailedNodesPass F rules stands old new group ge =
    (ids : List ℕ) (history : List Recorded) (happened : ClusterEvent) (olds : ℕ → List NodeState)
    → ComesTo old.groups.own group history happened ge → StandsBefore rules stands ids history old olds
    → old.groups.has_failed ≡ true → StaysInAll rules old new
    → LeadsOn {F = F} rules stands history happened old new group olds (Err fault.Failed)

-- a node that fails for want of memory outside of any event halts, and so does one that lacks room for a peer's piece
abbrev pub FailuresLead : {F : Type 0} → MachineRules → NodeValue → NodeValue → Fault F → Type 0
FailuresLead rules old new (fault.Stopped why unknown) =
    (history : List Recorded) (olds : ℕ → List NodeState)
    → old.groups.has_failed ≡ false → ((h : ℕ) → MayBe rules old h (olds h)) → IsTold ⊥ old new (fault.Stopped why unknown)
    → (h : ℕ) → LeadsIn rules history (Halt old.groups.own) (Stopped (names_in unknown.items)) old new h (olds h)
FailuresLead rules old new other = Unit {0}

-- ---- a new group

-- what a node promises of an adding
pub record IsAdding {F : Type 0} (rules : MachineRules) (stands : SnapshotBytes → Snapshot → Type 0) (same : Type 0) (old new : NodeValue)
    (group : ℕ) (result : Result Outcome (Fault F)) : Type 0 where
  pub failed : old.groups.has_failed ≡ true → (result ≡ Err fault.Failed) × same
  pub exists : old.groups.has_failed ≡ false → is_some (old.groups.members group) ≡ true → (result ≡ Err fault.GroupExists) × same
  pub added : old.groups.has_failed ≡ false → Stands old.groups group Absent → IsAdded rules stands new group result
  pub elsewhere : StaysElse old new group result
  pub names : (why : Cause F) (unknown : _) → result ≡ Err (fault.Stopped why unknown) → AreNamed old.running unknown.items

-- it leads on, whatever comes of it: one of a group that isn't there isn't refused
abbrev pub AddingsLead : {F : Type 0} → MachineRules → (SnapshotBytes → Snapshot → Type 0) → Type 0 → NodeValue → NodeValue → ℕ → Result Outcome (Fault F) → Type 0
AddingsLead rules stands same old new group result =
    (ids : List ℕ) (history : List Recorded) (olds : ℕ → List NodeState)
    → StandsBefore rules stands ids history old olds → (same → StaysInAll rules old new)
    → IsAdding rules stands same old new group result
    → LeadsOn rules stands history (AddGroup old.groups.own group) old new group olds result

-- ---- a message

-- a frame that says a message that was sent to the node, and comes from its sender, leads on as the message's delivery
abbrev pub FramesLead : {F : Type 0} → MachineRules → (SnapshotBytes → Snapshot → Type 0) → Type 0 → NodeValue → NodeValue → Frame → ℕ → Result Outcome (Fault F) → Type 0
FramesLead rules stands same old new frame now result =
    (ids : List ℕ) (history : List Recorded) (olds : ℕ → List NodeState) (number : ℕ) (m : Message)
    → slice_get (sent_by frame.group history) number ≡ Some m → m.addressee ≡ old.groups.own → Says stands frame.message m
    → old.groups.has_failed ≡ false → StandsBefore rules stands ids history old olds → (same → StaysInAll rules old new)
    → IsFrame rules stands same old new m.sender frame now result
    → LeadsOn rules stands history (led_by (stops_unjudged result) old.groups.own (Deliver frame.group number now)) old new frame.group olds result

-- ---- a stop behind an event

-- the event was done at a node that goes on, from whatever state of its group a history leads to
pub record WasDone (rules : MachineRules) (stands : SnapshotBytes → Snapshot → Type 0) (old mid : NodeValue) (group : ℕ) (ge : GroupEvent) (o : Outcome) : Type 0 where
  pub going : old.groups.has_failed ≡ false
  pub elsewhere : StaysElse {T = Outcome} {F = Unit {0}} old mid group (Ok o)
  pub done : (s : GroupState) → IsUpIn rules old group s → IsReached old.groups.own s ge → IsDone rules stands mid group s ge o

-- then the node fails for want of memory before anybody is told of it: it counts as an event that stopped behind its last storing
-- command, and the tokens that it was to tell or to leave unknown are named with those that waited
abbrev pub StopsBehindLead : {F : Type 0} → MachineRules → (SnapshotBytes → Snapshot → Type 0) → NodeValue → NodeValue → NodeValue
    → ℕ → GroupEvent → Outcome → Fault F → Type 0
StopsBehindLead rules stands old mid new group ge o (fault.Stopped why unknown) =
    (ids : List ℕ) (history : List Recorded) (happened : ClusterEvent) (olds : ℕ → List NodeState)
    → ComesTo old.groups.own group history happened ge → StandsBefore rules stands ids history old olds
    → WasDone rules stands old mid group ge o → IsTold ⊥ mid new (fault.Stopped why unknown)
    → (h : ℕ) → LeadsIn rules history happened (Stopped (names_behind o unknown.items)) old new h (olds h)
StopsBehindLead rules stands old mid new group ge o other = Unit {0}

-- an event whose answer is an outcome was done so
module _ (F : Type 0) (rules : MachineRules) (stands : SnapshotBytes → Snapshot → Type 0) (same : Type 0) (old mid : NodeValue) (o : Outcome) where
  abbrev pub AnsweredEventsWereDone : ℕ → GroupEvent → Type 0
  AnsweredEventsWereDone group ge =
      AreOfMachine rules stands → IsEvent {F = F} rules stands same old mid group ge (Ok o) → WasDone rules stands old mid group ge o

  abbrev pub AnsweredAddingsWereDone : ℕ → Type 0
  AnsweredAddingsWereDone group = IsAdding {F = F} rules stands same old mid group (Ok o) → WasDone rules stands old mid group Adds o

  abbrev pub AnsweredFramesWereDone : Frame → ℕ → Type 0
  AnsweredFramesWereDone frame now =
      (m : Message) → AreOfMachine rules stands → Says stands frame.message m → old.groups.has_failed ≡ false
      → IsFrame {F = F} rules stands same old mid m.sender frame now (Ok o) → WasDone rules stands old mid frame.group (Receive m.sender m now) o
