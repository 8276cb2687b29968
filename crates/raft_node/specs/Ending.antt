-- How an event of a group ends at its node.
use Rattle.std.specs.Prelude.{◌≡◌, ◌+◌, ◌++◌, ℕ, Bool, true, false, List, [], ◌∷◌, Option, Some, None, Result, Ok, Err}
use Rattle.std.specs.List.{AllZip}
use Rattle.raft_conditions.specs.Reason.{reason_of}
use Rattle.raft_conditions.specs.declared.refusal.Refusal.{Refusal}
use Rattle.raft_group_step.specs.GroupEvent.{GroupEvent}
use Rattle.raft_group_step.specs.GroupState.{GroupState}
use Rattle.raft_group_step.specs.GroupStep.{group_step}
use Rattle.raft_group_step.specs.Message.{Message as Said}
use Rattle.raft_group_step.specs.Refusal.{refusal_of}
use Rattle.raft_group_step.specs.StoredGroup.{Snapshot}
use Rattle.raft_group_storage.specs.Keeping.{KeepsOthers, Shows}
use Rattle.raft_messages.specs.declared.memberships.SnapshotBytes.{SnapshotBytes}
use Rattle.raft_messages.specs.declared.message.Message.{Message as Sent}
use Rattle.raft_executor.specs.Said.{SaysAll}
use Rattle.raft_executor.specs.Stored.{FailsAt}
use Rattle.raft_laws.specs.GroupWorld.{NodeState}
use Rattle.raft_laws.specs.Stop.{stopped_after}
use Rattle.raft_member.specs.Member.{IsLawful}
use Rattle.raft_step_laws.specs.Tokens.{brought}
use Rattle.raft_applier.specs.Applied.{HasGone}
use Rattle.raft_applier.specs.Building.{HasItsMembership}
use Rattle.raft_applier.specs.Following.{AreOfMachine, IsStep}
use Rattle.raft_framed_groups.specs.Answers.{Stands}
use Rattle.raft_framed_groups.specs.Frames.{AnyNotFramed, IsFramed}
use Rattle.raft_framed_groups.specs.declared.frames.GroupFrame.{GroupFrame}
use Rattle.raft_machines.specs.Machine.{MachineRules}
use Rattle.raft_node_faults.specs.Fault.{fault_of_refusal}
use Rattle.raft_node_faults.specs.declared.fault.Cause.{Cause}
use Rattle.raft_node_faults.specs.declared.fault.Cause.TheVariants as cause
use Rattle.raft_node_faults.specs.declared.fault.Fault.{Fault}
use Rattle.raft_node_faults.specs.declared.fault.Fault.TheVariants as fault
use Rattle.raft_machines.specs.declared.telling.UnknownTokens.{UnknownTokens}
use Rattle.raft_node.specs.Running.{Running}
use Rattle.raft_node.specs.Standing.{IsAt, NodeValue}
use Rattle.raft_node.specs.Waiting.{AreNamed, named_of, waiting_of}
use Rattle.raft_node.specs.declared.outcome.Outcome.{Outcome}

-- frames say these messages, in their order
pub record AreFramed (stands : SnapshotBytes → Snapshot → Type 0) (group : ℕ) (said : List Said) (frames : List GroupFrame) : Type 0 where
  pub messages : List (Sent SnapshotBytes)
  pub say : SaysAll stands messages said
  pub framed : AllZip (IsFramed group) messages frames

-- the event did what the group's step does, and all that is told and sent is stored
pub record IsDone (rules : MachineRules) (stands : SnapshotBytes → Snapshot → Type 0) (n : NodeValue) (group : ℕ) (s : GroupState) (e : GroupEvent) (o : Outcome) : Type 0 where
  pub of_group : o.group ≡ group
  pub taken : refusal_of n.groups.own s e ≡ None
  pub at : IsAt rules n group (group_step n.groups.own s e).state
  pub frames : AreFramed stands group (group_step n.groups.own s e).messages o.frames.items
  pub gone : HasGone rules (group_step n.groups.own s e) (record { told = o.told; unknown = o.unknown })

-- the event is refused for the step's reason, by this fault, and the group is as before
pub record IsRefused {F : Type 0} (rules : MachineRules) (n : NodeValue) (group : ℕ) (s : GroupState) (e : GroupEvent) (why : Fault F) : Type 0 where
  pub refusal : Refusal ℕ
  pub reason : refusal_of n.groups.own s e ≡ Some (reason_of refusal)
  pub named : why ≡ fault_of_refusal refusal
  pub at : IsAt rules n group s

-- ---- a stop

-- the event's storing commands are done from the first on, and the next one is or isn't: so a storage shows it
abbrev pub IsShownLeft : Shows → ℕ → ℕ → GroupState → GroupEvent → Type 0
IsShownLeft shows own group s e =
    (number : ℕ) × shows group (stopped_after number s.stored (group_step own s e) ∷ stopped_after (number + 1) s.stored (group_step own s e) ∷ [])

-- and so the node's does, which may have failed at the first command that isn't done
pub record IsLeft (n : NodeValue) (group : ℕ) (s : GroupState) (e : GroupEvent) : Type 0 where
  pub shown : IsShownLeft n.groups.shows n.groups.own group s e
  pub failed : FailsAt n.groups.fails shown.0 (group_step n.groups.own s e).commands s.stored

-- where a frame is the cause, one of the messages has none
abbrev pub IsCausedBy : {F : Type 0} → (SnapshotBytes → Snapshot → Type 0) → ℕ → List Said → Cause F → Type 0
IsCausedBy stands group said cause.Memory = Unit {0}
IsCausedBy stands group said cause.Unjudged = ⊥
IsCausedBy stands group said (cause.Storage met) = Unit {0}
IsCausedBy stands group said (cause.Frame why) = (messages : List (Sent SnapshotBytes)) × SaysAll stands messages said × AnyNotFramed group messages why

-- it isn't known whether the event is refused: nothing of it was begun, and the tokens that waited are named
pub record IsUnjudged (n : NodeValue) (group : ℕ) (s : GroupState) (unknown : List UnknownTokens) : Type 0 where
  pub stored : n.groups.shows group (s.stored ∷ [])
  pub named : named_of unknown group ≡ s.untold

-- the event isn't refused, and it stopped: the tokens that waited are named, and the one that it brought
pub record IsBroken {F : Type 0} (stands : SnapshotBytes → Snapshot → Type 0)
    (n : NodeValue) (group : ℕ) (s : GroupState) (e : GroupEvent) (why : Cause F) (unknown : List UnknownTokens) : Type 0 where
  pub taken : refusal_of n.groups.own s e ≡ None
  pub left : IsLeft n group s e
  pub named : named_of unknown group ≡ s.untold ++ brought s e
  pub caused : IsCausedBy stands group (group_step n.groups.own s e).messages why

-- the event stopped for this cause
abbrev pub HasStopped : {F : Type 0} → (SnapshotBytes → Snapshot → Type 0) → NodeValue → ℕ → GroupState → GroupEvent → List UnknownTokens → Cause F → Type 0
HasStopped stands n group s e unknown cause.Unjudged = IsUnjudged n group s unknown
HasStopped stands n group s e unknown why = IsBroken stands n group s e why unknown

-- ---- each end

-- the event ended so at a node that was in this state of the group
abbrev pub HasEnded : {F : Type 0} → MachineRules → (SnapshotBytes → Snapshot → Type 0) → NodeValue → ℕ → GroupState → GroupEvent → Result Outcome (Fault F) → Type 0
HasEnded rules stands n group s e (Ok o) = IsDone rules stands n group s e o
HasEnded rules stands n group s e (Err (fault.Stopped why unknown)) = (n.groups.has_failed ≡ true) × HasStopped stands n group s e unknown.items why
HasEnded rules stands n group s e (Err why) = IsRefused rules n group s e why

-- what histories give of a state and of an event that comes there
pub record IsReached (own : ℕ) (s : GroupState) (e : GroupEvent) : Type 0 where
  pub lawful : IsLawful own s
  pub membership : HasItsMembership s
  pub step : refusal_of own s e ≡ None → IsStep own s e

-- whatever state of the group the node is in, if a history leads there, the event ends by the group's step
abbrev pub Leads : {F : Type 0} → MachineRules → (SnapshotBytes → Snapshot → Type 0) → NodeValue → NodeValue → ℕ → GroupEvent → Result Outcome (Fault F) → Type 0
Leads rules stands old new group e result =
    (s : GroupState) → old.groups.has_failed ≡ false → AreOfMachine rules stands → IsAt rules old group s → IsReached old.groups.own s e
    → HasEnded rules stands new group s e result

-- ---- the others

-- the node goes on
abbrev pub GoesOn : {T F : Type 0} → Result T (Fault F) → Type 0
GoesOn (Ok o) = Unit {0}
GoesOn (Err (fault.Stopped why unknown)) = ⊥
GoesOn (Err why) = Unit {0}

-- a stop makes it fail, and nothing else does
abbrev pub FailsBy : {T F : Type 0} → Bool → Result T (Fault F) → Bool → Type 0
FailsBy old (Ok o) new = new ≡ old
FailsBy old (Err (fault.Stopped why unknown)) new = new ≡ true
FailsBy old (Err why) new = new ≡ old

-- the other groups' tokens that waited are named at a stop
abbrev pub NamesElse : {T F : Type 0} → NodeValue → ℕ → Result T (Fault F) → Type 0
NamesElse old group (Ok o) = Unit {0}
NamesElse old group (Err (fault.Stopped why unknown)) = (other : ℕ) → (other ≡ group → ⊥) → named_of unknown.items other ≡ waiting_of (old.running other)
NamesElse old group (Err why) = Unit {0}

-- a stop names all tokens that waited
abbrev pub NamesWaiting : {T F : Type 0} → (ℕ → Option Running) → Result T (Fault F) → Type 0
NamesWaiting running (Ok o) = Unit {0}
NamesWaiting running (Err (fault.Stopped why unknown)) = AreNamed running unknown.items
NamesWaiting running (Err why) = Unit {0}

-- it is refused, and the node goes on
abbrev pub IsTurnedDown : {T F : Type 0} → Result T (Fault F) → Type 0
IsTurnedDown (Ok o) = ⊥
IsTurnedDown (Err (fault.Stopped why unknown)) = ⊥
IsTurnedDown (Err why) = Unit {0}

-- every group stays, with its machine and its tokens
pub record StaysAll (old new : NodeValue) : Type 0 where
  pub members : (group : ℕ) (x : NodeState) → Stands old.groups group x → Stands new.groups group x
  pub running : (group : ℕ) → new.running group ≡ old.running group

-- the other groups stay, members, machines and tokens, and so does what is stored of them; peers' streams stay too
pub record StaysElse {T F : Type 0} (old new : NodeValue) (group : ℕ) (result : Result T (Fault F)) : Type 0 where
  pub own : new.groups.own ≡ old.groups.own
  pub members : (other : ℕ) (x : NodeState) → (other ≡ group → ⊥) → GoesOn result → Stands old.groups other x → Stands new.groups other x
  pub running : (other : ℕ) → (other ≡ group → ⊥) → GoesOn result → new.running other ≡ old.running other
  pub kept : KeepsOthers old.groups.shows new.groups.shows group
  pub named : NamesElse old group result
  pub streams : (peer : ℕ) → new.streams peer ≡ old.streams peer
  pub fails : FailsBy old.groups.has_failed result new.groups.has_failed

-- an event of a group at a node. A node that has failed and a group that isn't there refuse it, and all is as it was
pub record IsEvent {F : Type 0} (rules : MachineRules) (stands : SnapshotBytes → Snapshot → Type 0) (same : Type 0)
    (old new : NodeValue) (group : ℕ) (e : GroupEvent) (result : Result Outcome (Fault F)) : Type 0 where
  pub leads : Leads rules stands old new group e result
  pub elsewhere : StaysElse old new group result
  pub failed : old.groups.has_failed ≡ true → (result ≡ Err fault.Failed) × same
  pub unknown : old.groups.has_failed ≡ false → old.groups.members group ≡ None → (result ≡ Err fault.UnknownGroup) × same
