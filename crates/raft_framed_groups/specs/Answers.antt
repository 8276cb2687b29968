-- What a piece of a peer's stream does to a node, and what it is answered.
use Rattle.std.specs.Prelude.{◌≡◌, ◌⊎◌, ◌==◌, ◌&&◌, not, ℕ, Bool, true, false, List, Option, Some, None, Result, Ok, Err}
use Rattle.std.specs.List.{AllZip}
use Rattle.raft_group_step.specs.Message.{Message as Said}
use Rattle.raft_group_step.specs.StoredGroup.{Snapshot, StoredGroup}
use Rattle.raft_group_step.specs.GroupState.{GroupState}
use Rattle.raft_group_step.specs.GroupEvent.{Call, GroupCall, GroupEvent, Receive}
use Rattle.raft_group_step.specs.declared.group_call.GroupCall.TheVariants.{TriggerSnapshot}
use Rattle.raft_group_storage.specs.Keeping.{Fails, KeepsOthers}
use Rattle.raft_messages.specs.declared.memberships.SnapshotBytes.{SnapshotBytes}
use Rattle.raft_messages.specs.declared.message.Message.{Message as Sent}
use Rattle.raft_executor.specs.Said.{Says}
use Rattle.raft_laws.specs.GroupWorld.{NodeState, Up}
use Rattle.raft_member.specs.Member.{HasBrokenOff, HasEnded, HasStopped, IsBuilt, IsLawful}
use Rattle.raft_member.specs.declared.member.Broken.{Broken}
use Rattle.raft_member.specs.declared.member.Ended.{Ended}
use Rattle.raft_member.specs.declared.member.Ended.TheVariants as ended
use Rattle.raft_member.specs.declared.member.Member.{Member}
use Rattle.raft_groups.specs.Faults.{HasBegun, HasMet, fault_of_groups}
use Rattle.raft_groups.specs.declared.fault.GroupsFault.TheVariants as groups_fault
use Rattle.raft_groups.specs.Standing.{HasMember, StandsAs}
use Rattle.raft_wire.specs.Frames.{FitsFrame}
use Rattle.raft_wire.specs.Stream.{Answers, Feeding, IsSpelledSo}
use Rattle.raft_wire.specs.declared.error.FrameError.{FrameError}
use Rattle.raft_wire.specs.declared.frame.Frame.{Frame}
use Rattle.raft_framed_groups.specs.Frames.{AnyNotFramed, IsFramed}
use Rattle.raft_framed_groups.specs.declared.answering.Answer.{Answer}
use Rattle.raft_framed_groups.specs.declared.answering.AnswerError.{AnswerError}
use Rattle.raft_framed_groups.specs.declared.answering.AnswerError.TheVariants as error
use Rattle.raft_framed_groups.specs.declared.answering.Outcome.{Outcome}
use Rattle.raft_framed_groups.specs.declared.answering.Outcome.TheVariants as outcome

-- what a step sends is answered as frames, or one of its messages has none
abbrev pub IsSentAs : {F : Type 0} → ℕ → List (Sent SnapshotBytes) → Result Outcome (AnswerError F) → Type 0
IsSentAs group messages (Ok (outcome.Sent sent)) = AllZip (IsFramed group) messages sent.items
IsSentAs group messages (Ok other) = ⊥
IsSentAs group messages (Err (error.Unsent why)) = AnyNotFramed group messages why
IsSentAs group messages (Err other) = ⊥

-- an event that ended so is answered so
abbrev pub IsOutcomeOf : {F : Type 0} → ℕ → Ended SnapshotBytes → Result Outcome (AnswerError F) → Type 0
IsOutcomeOf group (ended.Done messages) answer = IsSentAs group messages.items answer
IsOutcomeOf group (ended.Refused why) answer = answer ≡ Ok (outcome.Refused why)
IsOutcomeOf group ended.Stopped answer = answer ≡ Ok outcome.Down
IsOutcomeOf group ended.Skipped answer = answer ≡ Ok outcome.Down

-- ---- a frame that came

-- a node: whether it has failed, which members it has, whether its storage is well, what that shows, and at which commands it may have failed
pub record Node : Type 1 where
  pub own : ℕ
  pub has_failed : Bool
  pub members : ℕ → Option Member
  pub is_well : Type 0
  pub shows : ℕ → List StoredGroup → Type 0
  pub fails : Fails

-- a node with such members over this storage, which is well, shows, and may have failed so
abbrev pub node_over : {S : Type 0} → ℕ → (S → Type 0) → (S → ℕ → List StoredGroup → Type 0) → (S → Fails) → Bool → (ℕ → Option Member) → S → Node
node_over own is_well shows fails has_failed members storage = record {
  own = own;
  has_failed = has_failed;
  members = members;
  is_well = is_well storage;
  shows = shows storage;
  fails = fails storage;
}

-- what the node is in a group
abbrev pub Stands : Node → ℕ → NodeState → Type 0
Stands n = StandsAs n.own n.members n.is_well n.shows

-- the group's member was in this state, and took its step at the event, or refused it; or the step met a fault and this holds
abbrev pub IsTakenOr : {F : Type 0} → (Broken F → Member → Type 0) → (SnapshotBytes → Snapshot → Type 0)
    → Node → ℕ → GroupState → GroupEvent → Result Outcome (AnswerError F) → Type 0
IsTakenOr breaks stands n group s event (Err (error.Groups fault)) = HasMet (λ met. HasMember n.own n.members group (breaks met)) fault
IsTakenOr breaks stands n group s event answer =
    (end : Ended SnapshotBytes) × HasMember n.own n.members group (λ member. HasEnded stands n.is_well (n.shows group) n.own s event None member end)
    × IsOutcomeOf group end answer

-- nothing of it came to a group
abbrev pub IsTurnedAway : {F : Type 0} → Result Outcome (AnswerError F) → Type 0
IsTurnedAway (Ok came) = ⊥
IsTurnedAway (Err (error.Stream why)) = Unit {0}
IsTurnedAway (Err error.WrongParty) = Unit {0}
IsTurnedAway (Err (error.Groups groups_fault.Failed)) = Unit {0}
IsTurnedAway (Err (error.Groups groups_fault.UnknownGroup)) = Unit {0}
IsTurnedAway (Err (error.Groups groups_fault.GroupExists)) = Unit {0}
IsTurnedAway (Err (error.Groups (groups_fault.Stopped met))) = ⊥
IsTurnedAway (Err (error.Unsent why)) = ⊥

-- the node has failed once an event met a fault, and else goes on as before
abbrev pub GoesOn : {F : Type 0} → Bool → Result Outcome (AnswerError F) → Bool → Type 0
GoesOn old (Err (error.Groups (groups_fault.Stopped met))) new = new ≡ true
GoesOn old answer new = new ≡ old

-- the groups met no fault
abbrev pub IsNoFault : {F : Type 0} → Result Outcome (AnswerError F) → Type 0
IsNoFault (Err (error.Groups fault)) = ⊥
IsNoFault answer = Unit {0}

-- the other groups stay; a node that has failed and a group that isn't there are refused
pub record IsOfGroup {F : Type 0} (old new : Node) (group : ℕ) (answer : Result Outcome (AnswerError F)) : Type 0 where
  pub others : (other : ℕ) (x : NodeState) → (other ≡ group → ⊥) → Stands old other x → IsNoFault answer → Stands new other x
  pub kept : KeepsOthers old.shows new.shows group
  pub failed : old.has_failed ≡ true → answer ≡ Err (error.Groups groups_fault.Failed)
  pub unknown : old.has_failed ≡ false → old.members group ≡ None → answer ≡ Err (error.Groups groups_fault.UnknownGroup)
  pub goes_on : GoesOn old.has_failed answer new.has_failed

-- ---- a call

-- the group did what it is asked for, if it is up in a lawful state and the node hasn't failed
abbrev pub TakesCall : {F : Type 0} → (SnapshotBytes → Snapshot → Type 0) → Node → Node → ℕ → GroupCall → Option SnapshotBytes → ℕ → Result Outcome (AnswerError F) → Type 0
TakesCall stands old new group call built now answer =
    (s : GroupState) → old.has_failed ≡ false → (call ≡ TriggerSnapshot → IsBuilt stands built s) → Stands old group (Up s) → IsLawful old.own s
    → IsTakenOr (λ met member. HasBrokenOff new.is_well (new.shows group) new.fails new.own s (Call call now) member met) stands new group s (Call call now) answer

-- the group was asked, and the others stay
pub record IsAsked {F : Type 0} (stands : SnapshotBytes → Snapshot → Type 0) (old new : Node) (group : ℕ) (call : GroupCall)
    (built : Option SnapshotBytes) (now : ℕ) (answer : Result Outcome (AnswerError F)) : Type 0 where
  pub taken : TakesCall stands old new group call built now answer
  pub of_group : IsOfGroup old new group answer

-- ---- a frame

-- whatever the frame's message says, its group takes that, if it is up in a lawful state and the node hasn't failed
abbrev pub TakesMessage : {F : Type 0} → (SnapshotBytes → Snapshot → Type 0) → Node → Node → Frame → ℕ → Result Outcome (AnswerError F) → Type 0
TakesMessage stands old new frame now answer =
    (m : Said) (s : GroupState) → old.has_failed ≡ false → Says stands frame.message m → Stands old frame.group (Up s) → IsLawful old.own s
    → IsTakenOr (λ met member. HasBegun (HasStopped (new.shows frame.group) new.fails new.own s (Receive frame.message.sender m now) member) met)
    stands new frame.group s (Receive frame.message.sender m now) answer

-- the frame's group took its message, and the others stay
pub record IsFrameTaken {F : Type 0} (stands : SnapshotBytes → Snapshot → Type 0) (old new : Node) (frame : Frame) (now : ℕ) (answer : Result Outcome (AnswerError F)) : Type 0 where
  pub taken : TakesMessage stands old new frame now answer
  pub of_group : IsOfGroup old new frame.group answer

-- the frame is the peer's own, and for this node
abbrev pub is_right_party : ℕ → ℕ → Frame → Bool
is_right_party own peer frame =
    (frame.message.sender == peer) && (not (frame.message.sender == own)) && (frame.message.addressee == own)

-- ---- a piece of a stream

-- a frame that was made whole is within its limits
abbrev pub IsFit : Result (Option Frame) FrameError → Type 0
IsFit (Ok None) = Unit {0}
IsFit (Ok (Some frame)) = FitsFrame frame
IsFit (Err why) = Unit {0}

-- a frame of a wrong party is refused and changes nothing, and another one is taken so
abbrev pub IsFrom : {G F : Type 0} → Bool → G → G → Type 0 → Result Outcome (AnswerError F) → Type 0
IsFrom is_right old new taken answer =
    ((is_right ≡ false) × (answer ≡ Err error.WrongParty) × (new ≡ old)) ⊎ ((is_right ≡ true) × taken)

-- what the feeder made of the piece, and what became of that
abbrev pub IsAnswerTo : {G F : Type 0} → ℕ → ℕ → G → G → (Frame → Type 0) → Result (Option Frame) FrameError → Result Outcome (AnswerError F) → Type 0
IsAnswerTo own peer old new taken (Ok None) answer = (answer ≡ Ok outcome.Waits) × (new ≡ old)
IsAnswerTo own peer old new taken (Ok (Some frame)) answer = IsFrom (is_right_party own peer frame) old new (taken frame) answer
IsAnswerTo own peer old new taken (Err why) answer = (answer ≡ Err (error.Stream why)) × (new ≡ old)

-- The piece was fed, and its bytes up to the end of a frame are the one spelling of what is answered
pub record IsAnswered {G F : Type 0} (own peer : ℕ) (old new : G) (taken : Frame → Type 0) (fed : Feeding) (piece : List ℕ) (answer : Answer F) (feeding : Feeding) : Type 0 where
  pub frame : Result (Option Frame) FrameError
  pub feeds : Answers fed piece answer.used frame feeding
  pub spelled : IsSpelledSo fed.held piece answer.used frame
  pub answers : IsAnswerTo own peer old new taken frame answer.outcome

-- ---- the storage's fault

-- that is the cause, if one is
abbrev pub fault_of_answer : {F : Type 0} → AnswerError F → Option F
fault_of_answer (error.Stream why) = None
fault_of_answer error.WrongParty = None
fault_of_answer (error.Groups fault) = fault_of_groups fault
fault_of_answer (error.Unsent why) = None

-- none where there is an answer
abbrev pub fault_met_by_answer : {T F : Type 0} → Result T (AnswerError F) → Option F
fault_met_by_answer (Ok came) = None
fault_met_by_answer (Err why) = fault_of_answer why
