-- Where an opening, a crash, a cleaning and a stream that begins anew lead the groups of their node.
use Rattle.std.specs.Prelude.{◌≡◌, ◌==◌, ℕ, Bool, true, false, List, [], ◌∷◌, map, None, All, Contains}
use Rattle.std.specs.List.{AllByRecursion, AllZip}
use Rattle.raft_group_step.specs.GroupEvent.{GroupEvent}
use Rattle.raft_group_step.specs.GroupState.{no_group}
use Rattle.raft_group_step.specs.Message.{Message}
use Rattle.raft_group_step.specs.StoredGroup.{Snapshot, StoredGroup}
use Rattle.raft_group_storage.specs.Keeping.{Fails, KeepsAll, Shows}
use Rattle.raft_messages.specs.declared.memberships.SnapshotBytes.{SnapshotBytes}
use Rattle.raft_laws.specs.GroupWorld.{Down, NodeState}
use Rattle.raft_headline.specs.ClusterEvent.{Clean, ClusterEvent, ClusterOutcome, Crash, Done, Fuse, Opened, PassedOver, Recorded, Reopen, ResetPeer}
use Rattle.raft_headline.specs.ClusterEvent.{Said, Stopped, Unknown, silent}
use Rattle.raft_headline.specs.Naming.{names_in}
use Rattle.raft_headline.specs.Seen.{own_tokens}
use Rattle.raft_cluster_laws.specs.Acts.{EventLeads}
use Rattle.raft_cluster_laws.specs.Keeping.{StandsInWorld}
use Rattle.raft_machines.specs.Machine.{MachineRules}
use Rattle.raft_node_faults.specs.declared.fault.Fault.{Fault}
use Rattle.raft_node_faults.specs.declared.fault.Fault.TheVariants as fault
use Rattle.raft_node.specs.Feeding.{StaysBut}
use Rattle.raft_node.specs.Opening.{HasNotOpened, HasOpened, IsReopened, StopsNaming}
use Rattle.raft_node.specs.Settling.{NamesAll}
use Rattle.raft_node.specs.Standing.{NodeValue}
use Rattle.raft_node.specs.declared.outcome.Outcome.{Outcome}
use Rattle.raft_node_joint.specs.Coming.{ComesTo}
use Rattle.raft_node_joint.specs.Leading.{LeadsIn, recorded}
use Rattle.raft_node_joint.specs.Saying.{SaysOf}
use Rattle.raft_node_joint.specs.Standing.{MayBe}

-- ---- a node that is down

-- what a history leads to there can be opened
abbrev pub DownNodesAreReopened : Type 0
DownNodesAreReopened =
    (rules : MachineRules) (ids : List ℕ) (h : ℕ) (history : List Recorded) (own : ℕ) (st : StoredGroup)
    → StandsInWorld rules ids h history own (Down st) → IsReopened own st

-- nothing is stored there of a group that isn't there
abbrev pub AbsentGroupsStoreNothing : Type 0
AbsentGroupsStoreNothing =
    (rules : MachineRules) (ids : List ℕ) (h : ℕ) (history : List Recorded) (own : ℕ) (st : StoredGroup)
    → StandsInWorld rules ids h history own (Down st) → st.present ≡ false → st ≡ no_group

-- this is kept of each group: one of the states in which the node may have been, and it stands in a world to which the history leads
pub record StandsDown (rules : MachineRules) (ids : List ℕ) (own : ℕ) (history : List Recorded) (olds : ℕ → List NodeState)
    (kept : ℕ → StoredGroup) : Type 0 where
  pub among : (h : ℕ) → Contains (olds h) (Down (kept h))
  pub in_world : (h : ℕ) → StandsInWorld rules ids h history own (Down (kept h))

-- a storage shows these parts of the group, and the event with that outcome leads to each of them
pub record LeadsDown (rules : MachineRules) (shows : Shows) (own h : ℕ) (happened : ClusterEvent) (o : ClusterOutcome) (history : List Recorded)
    (olds : List NodeState) : Type 0 where
  pub one : StoredGroup
  pub more : List StoredGroup
  pub shown : shows h (one ∷ more)
  pub leads : EventLeads rules h own (recorded own happened o) history olds (Down one ∷ map Down more)

-- ---- what is sent

-- the node is the sender
abbrev pub AreOwn : ℕ → List Message → Type 0
AreOwn own sent = All (λ (m : Message). m.sender ≡ own) sent

-- so it is of each message of an event that was done
abbrev pub OwnMessages : Type 0
OwnMessages =
    (rules : MachineRules) (n group : ℕ) (history : List Recorded) (happened : ClusterEvent) (ge : GroupEvent) (said : Said)
    (olds news : List NodeState)
    → ComesTo n group history happened ge → EventLeads rules group n (recorded n happened (Done said)) history olds news
    → AreOwn n said.sent

-- ---- a node that was opened

-- an outcome says this of its group, by messages of the node
pub record IsPart (stands : SnapshotBytes → Snapshot → Type 0) (own : ℕ) (o : Outcome) (part : ℕ × Said) : Type 0 where
  pub group : part.0 ≡ o.group
  pub says : SaysOf stands o.group o part.1
  pub sender : AreOwn own part.1.sent

-- no group has two outcomes
abbrev pub IsOnceEach : List Outcome → Type 0
IsOnceEach [] = Unit {0}
IsOnceEach (o ∷ os) = AllByRecursion (λ (other : Outcome). (o.group == other.group) ≡ false) os × IsOnceEach os

-- one outcome of the opening says what the node answered, and leads each group from what was kept to the state in which the node is
pub record OpensOn (rules : MachineRules) (stands : SnapshotBytes → Snapshot → Type 0) (history : List Recorded) (n : NodeValue)
    (olds : ℕ → List NodeState) (outcomes : List Outcome) : Type 0 where
  pub once : IsOnceEach outcomes
  pub parts : List (ℕ × Said)
  pub says : AllZip (IsPart stands n.groups.own) outcomes parts
  pub leads : (h : ℕ) → LeadsIn rules history (Reopen n.groups.own) (Opened parts) n n h (olds h)

abbrev pub OpeningsLead : MachineRules → (SnapshotBytes → Snapshot → Type 0) → NodeValue → List Outcome → Type 0
OpeningsLead rules stands n outcomes =
    (ids : List ℕ) (history : List Recorded) (olds : ℕ → List NodeState) (kept : ℕ → StoredGroup)
    → StandsDown rules ids n.groups.own history olds kept → n.groups.has_failed ≡ false → HasOpened rules stands kept n outcomes
    → OpensOn rules stands history n olds outcomes

-- ---- an opening that stopped

-- they name no token of any group: nobody waits at a node that is down
abbrev pub NamesNobody : List Unknown → Type 0
NamesNobody names = (h : ℕ) → own_tokens h names ≡ []

abbrev pub StopsNameNobody : {F : Type 0} → Fault F → Type 0
StopsNameNobody (fault.Stopped why unknown) = StopsNaming (λ group. None) (fault.Stopped why unknown) → NamesNobody (names_in unknown.items)
StopsNameNobody other = Unit {0}

-- the node was opened and goes down again: of each group the one part that the storage shows has all of its opening
abbrev pub ClosedOpeningsLead : MachineRules → (SnapshotBytes → Snapshot → Type 0) → NodeValue → List Outcome → Type 0
ClosedOpeningsLead rules stands n outcomes =
    (ids : List ℕ) (history : List Recorded) (olds : ℕ → List NodeState) (kept : ℕ → StoredGroup) (names : List Unknown)
    → StandsDown rules ids n.groups.own history olds kept → HasOpened rules stands kept n outcomes → NamesNobody names
    → (h : ℕ) → (left : LeadsDown rules n.groups.shows n.groups.own h (Reopen n.groups.own) (Stopped names) history (olds h)) × (left.more ≡ [])

-- it stopped inside some group's opening, or before the first: whatever the storage shows of each group is where the stop may lead
abbrev pub LeftOpeningsLead : {F : Type 0} → MachineRules → ℕ → Shows → Fails → Fault F → Type 0
LeftOpeningsLead rules own shows fails why =
    (ids : List ℕ) (history : List Recorded) (olds : ℕ → List NodeState) (kept : ℕ → StoredGroup) (names : List Unknown)
    → StandsDown rules ids own history olds kept → HasNotOpened own kept shows fails why → NamesNobody names
    → (h : ℕ) → LeadsDown rules shows own h (Reopen own) (Stopped names) history (olds h)

-- nothing was begun, and the node may still be in each state in which it may have been
abbrev pub RefusedOpeningsLead : Type 0
RefusedOpeningsLead =
    (rules : MachineRules) (h own : ℕ) (history : List Recorded) (names : List Unknown) (one : StoredGroup) (more : List StoredGroup)
    → NamesNobody names → let downs = Down one ∷ map Down more in EventLeads rules h own (recorded own (Reopen own) (Stopped names)) history downs downs

-- ---- a crash

-- it leads to each part that the storage shows, also where the node had failed before
abbrev pub CrashesLead : MachineRules → NodeValue → Type 0
CrashesLead rules n =
    (history : List Recorded) (h : ℕ) (states : List NodeState) → MayBe rules n h states
    → LeadsDown rules n.groups.shows n.groups.own h (Crash n.groups.own) (Done silent) history states

-- ---- a stream that begins anew

-- a node that has failed passes that over, and so it does a cleaning
abbrev pub reset_as : Bool → ClusterOutcome
reset_as true = PassedOver
reset_as false = Done silent

-- no group sees it
abbrev pub ResetsLead : MachineRules → NodeValue → NodeValue → Type 0
ResetsLead rules old new =
    (history : List Recorded) (peer : ℕ) (olds : ℕ → List NodeState)
    → StaysBut old new peer → ((h : ℕ) → MayBe rules old h (olds h))
    → (h : ℕ) → LeadsIn rules history (ResetPeer old.groups.own peer) (reset_as old.groups.has_failed) old new h (olds h)

-- ---- a cleaning of its files

-- no group sees it
abbrev pub CleaningsLead : MachineRules → NodeValue → NodeValue → Type 0
CleaningsLead rules old new =
    (history : List Recorded) (peer : ℕ) (olds : ℕ → List NodeState)
    → StaysBut old new peer → ((h : ℕ) → MayBe rules old h (olds h))
    → (h : ℕ) → LeadsIn rules history (Clean old.groups.own) (reset_as old.groups.has_failed) old new h (olds h)

-- the storage failed in it: the node fails, what is stored stays, and all tokens that waited are named
pub record StopsCleaning {F : Type 0} (old new : NodeValue) (why : Fault F) : Type 0 where
  pub own : new.groups.own ≡ old.groups.own
  pub fails : new.groups.has_failed ≡ true
  pub kept : KeepsAll old.groups.shows new.groups.shows
  pub names : NamesAll ⊥ old.running why

-- each group sees that its node halted
abbrev pub StoppedCleaningsLead : {F : Type 0} → MachineRules → NodeValue → NodeValue → Fault F → Type 0
StoppedCleaningsLead rules old new (fault.Stopped why unknown) =
    (history : List Recorded) (olds : ℕ → List NodeState)
    → old.groups.has_failed ≡ false → ((h : ℕ) → MayBe rules old h (olds h)) → StopsCleaning old new (fault.Stopped why unknown)
    → (h : ℕ) → LeadsIn rules history (Clean old.groups.own) (Stopped (names_in unknown.items)) old new h (olds h)
StoppedCleaningsLead rules old new other = Unit {0}

-- ---- a fuse of its files

-- no group sees it, and the node may be in each state in which it might have been
abbrev pub FusesLead : MachineRules → NodeValue → NodeValue → Type 0
FusesLead rules old new =
    (history : List Recorded) (peer : ℕ) (olds : ℕ → List NodeState)
    → StaysBut old new peer → ((h : ℕ) → MayBe rules old h (olds h))
    → (h : ℕ) → LeadsIn rules history (Fuse old.groups.own) (Done silent) old new h (olds h)

-- so it is of a node that is down
abbrev pub DownFusesLead : Type 0
DownFusesLead =
    (rules : MachineRules) (h own : ℕ) (history : List Recorded) (one : StoredGroup) (more : List StoredGroup)
    → let downs = Down one ∷ map Down more in EventLeads rules h own (recorded own (Fuse own) (Done silent)) history downs downs
