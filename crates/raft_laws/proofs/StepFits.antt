-- A node and an event that fit the ballot machine, and what a step keeps: wherever it stops, and at its end.
use Rattle.std.specs.Prelude.{◌≡◌, ℕ, ◌<◌, ◌^◌, List, length, take, Some}
use Rattle.raft_group_step.specs.Values.{Membership}
use Rattle.raft_group_step.specs.StoredGroup.{StoredGroup, after_storing_all, prefix_of, held}
use Rattle.raft_group_step.specs.Message.{Message}
use Rattle.raft_group_step.specs.GroupState.{GroupState, state_of}
use Rattle.raft_group_step.specs.declared.group_call.GroupCall.TheVariants.{Initialize, Elect, Propose, ChangeMembership, Heartbeat, Lost, TriggerSnapshot, TriggerPurge}
use Rattle.raft_group_step.specs.GroupEvent.{GroupCall, GroupEvent, AddGroup, Call, Receive, Open}
use Rattle.raft_group_step.specs.StepResult.{StepResult}
use Rattle.raft_group_step.specs.GroupStep.{group_step}
use Rattle.raft_laws.specs.BallotWorld.{BallotWorld, BallotEvent, ballot_start, ballot_run}
use Rattle.raft_laws.specs.BallotRanks.{ballot_group}
use Rattle.raft_laws.proofs.BallotSafe.{Among}
use Rattle.raft_laws.proofs.BallotOthers.{AllBy}
use Rattle.raft_laws.proofs.Standing.{DownFits, UpFits, LeadKept, RoleFits, MessageFits}

-- the ballot machine's world after these events
abbrev pub world_after : Membership → List BallotEvent → BallotWorld
world_after m before = ballot_run (ballot_group m) before (ballot_start (ballot_group m))

-- what is still to be purged lies within the snapshot
abbrev pub WishFits : GroupState → Type 0
WishFits s = (place : ℕ) → s.wish ≡ Some place → place < length (prefix_of s.stored.snapshot)

-- a node that is up
pub record NodeFits (m : Membership) (w : BallotWorld) (own : ℕ) (s : GroupState) : Type 0 where
  pub up : UpFits m (w.node own) s
  pub role : RoleFits own w s.stored.vote (held s.stored) s.role
  pub lead : LeadKept own s.stored
  pub wish : WishFits s

-- a node that is down
pub record StopFits (m : Membership) (w : BallotWorld) (own : ℕ) (st : StoredGroup) : Type 0 where
  pub down : DownFits m (w.node own) st
  pub lead : LeadKept own st

-- a call sets up no other group
abbrev pub CallFits : Membership → GroupCall → Type 0
CallFits m (Initialize first) = first ≡ m
CallFits m Elect = Unit {0}
CallFits m (Propose command token) = Unit {0}
CallFits m (ChangeMembership change token) = Unit {0}
CallFits m Heartbeat = Unit {0}
CallFits m (Lost peer) = Unit {0}
CallFits m TriggerSnapshot = Unit {0}
CallFits m (TriggerPurge place) = Unit {0}

-- a message that comes was sent
abbrev pub EventFits : Membership → BallotWorld → GroupEvent → Type 0
EventFits m w AddGroup = Unit {0}
EventFits m w (Call call now) = CallFits m call
EventFits m w (Receive peer message now) = MessageFits m w message
EventFits m w Open = Unit {0}

module _ (m : Membership) (own : ℕ) (before : List BallotEvent) where
  -- the ballot machine after further events of this node
  pub record Later : Type 0 where
    pub events : List BallotEvent
    pub by : AllBy own events

  abbrev pub world_later : Later → BallotWorld
  world_later l = ballot_run (ballot_group m) l.events (world_after m before)

  -- the node stops with this stored part
  pub record StepStop (st : StoredGroup) : Type 0 where
    pub later : Later
    pub fits : StopFits m (world_later later) own st

  -- a step from this stored part: its end, and its stops after each number of storing commands
  pub record StepEnd (base : StoredGroup) (r : StepResult) : Type 0 where
    pub later : Later
    pub node : NodeFits m (world_later later) own r.state
    pub messages : (x : Message) → Among x r.messages → MessageFits m (world_later later) x
    pub stops : (k : ℕ) → StepStop (after_storing_all (take k r.commands) base)

-- each step of a node that is up, refused ones too
abbrev pub StepFits : Type 0
StepFits =
    (m : Membership) → 0 < length m.configs → (own : ℕ) → own < 2 ^ 64 → (before : List BallotEvent) (s : GroupState) (e : GroupEvent)
    → NodeFits m (world_after m before) own s
    → EventFits m (world_after m before) e
    → StepEnd m own before s.stored (group_step own s e)

-- each opening of a node that is down
abbrev pub OpeningFits : Type 0
OpeningFits =
    (m : Membership) → 0 < length m.configs → (own : ℕ) → own < 2 ^ 64 → (before : List BallotEvent) (st : StoredGroup)
    → StopFits m (world_after m before) own st
    → StepEnd m own before st (group_step own (state_of st) Open)
