-- One more message is framed; one that isn't is among all of them. What a message accepts is what it says that it accepts.
use Rattle.std.proofs.Common.{◌≡◌, ℕ, Bool, List, [], ◌∷◌, ◌++◌, None, Result, Ok, Err, ap, sym}
use Rattle.std.specs.List.{AllZip}
use Rattle.raft_messages.specs.declared.message.Message.{Message}
use Rattle.raft_messages.specs.declared.memberships.SnapshotBytes.{SnapshotBytes}
use Rattle.raft_messages.specs.declared.message.MessageBody.{MessageBody as Body}
use Rattle.raft_messages.specs.declared.message.MessageBody.TheVariants.{VoteRequest as AsksForVote, VoteReply as AnswersVote, AppendRequest as SendsEntries}
use Rattle.raft_messages.specs.declared.message.MessageBody.TheVariants.{AppendReply as AnswersEntries, SnapshotRequest as SendsSnapshot, SnapshotReply as AnswersSnapshot}
use Rattle.raft_group_step.specs.Message.{Message as Said, MessageBody as SaidBody}
use Rattle.raft_executor.specs.Said.{Says, SaysBody}
use Rattle.raft_list_facts.specs.Accepting.{accepted_by, accepted_in}
use Rattle.raft_wire.specs.Frames.{fault_of_frame}
use Rattle.raft_wire.specs.Writing.{Writes}
use Rattle.raft_wire.specs.declared.error.FrameError.{FrameError}
use Rattle.raft_wire.specs.declared.error.FrameError.TheVariants as frame_error
use Rattle.raft_group_step.specs.StoredGroup.{Snapshot}
use Rattle.raft_group_step.specs.GroupState.{GroupState}
use Rattle.raft_group_step.specs.GroupEvent.{GroupEvent}
use Rattle.raft_member.specs.Member.{HasEnded}
use Rattle.raft_member.specs.declared.member.Broken.{Broken}
use Rattle.raft_member.specs.declared.member.Ended.{Ended}
use Rattle.raft_member.specs.declared.member.Ended.TheVariants as ended
use Rattle.raft_member.specs.declared.member.Member.{Member}
use Rattle.raft_groups.specs.Faults.{GoesOn as GroupsGoesOn, IsTurnedAway as GroupsTurnedAway}
use Rattle.raft_groups.specs.Standing.{HasMember}
use Rattle.raft_groups.specs.declared.fault.GroupsFault.{GroupsFault}
use Rattle.raft_groups.specs.declared.fault.GroupsFault.TheVariants as groups_fault
use Rattle.raft_framed_groups.specs.Answers.{GoesOn, IsOutcomeOf, IsTakenOr, IsTurnedAway, Node}
use Rattle.raft_framed_groups.specs.Frames.{IsNotFramed}
use Rattle.raft_framed_groups.specs.declared.answering.AnswerError.{AnswerError}
use Rattle.raft_framed_groups.specs.declared.answering.AnswerError.TheVariants as error
use Rattle.raft_framed_groups.specs.declared.answering.Outcome.{Outcome}
use Rattle.raft_framed_groups.specs.declared.answering.Outcome.TheVariants as outcome

pub zip_push : {A B : Type 0} (R : A → B → Type 0) (xs : List A) (ys : List B) (x : A) (y : B) → AllZip R xs ys → R x y → AllZip R (xs ++ x ∷ []) (ys ++ y ∷ [])
zip_push R [] [] x y h k = (k, tt)
zip_push R [] (b ∷ ys) x y h k = absurd h
zip_push R (a ∷ xs) [] x y h k = absurd h
zip_push R (a ∷ xs) (b ∷ ys) x y h k = (h.0, zip_push R xs ys x y h.1 k)

pub not_framed : (group : ℕ) (m : Message SnapshotBytes) (bytes : List ℕ) (why : FrameError) → Writes (fault_of_frame m.body) bytes (Err why) → IsNotFramed group m why
not_framed group m bytes (frame_error.Fault f) h = h
not_framed group m bytes frame_error.StreamFailed h = h
not_framed group m bytes frame_error.Memory h = tt

body_accepts : {X : Type 0} (stands : X → Snapshot → Type 0) (body : Body X) (said : SaidBody) → SaysBody stands body said → accepted_by body ≡ accepted_in said
body_accepts stands (AsksForVote request) said is = ap accepted_in (sym is)
body_accepts stands (AnswersVote answer) said is = ap accepted_in (sym is)
body_accepts stands (SendsEntries m) said is = ap accepted_in (sym is)
body_accepts stands (AnswersEntries m) said is = ap accepted_in (sym is)
body_accepts stands (SendsSnapshot vote id x) said (y, same, is) = ap accepted_in (sym is)
body_accepts stands (AnswersSnapshot m) said is = ap accepted_in (sym is)

pub says_what_it_accepts : {X : Type 0} (stands : X → Snapshot → Type 0) (m : Message X) (said : Said) → Says stands m said → accepted_by m.body ≡ accepted_in said.body
says_what_it_accepts stands m said says = body_accepts stands m.body said.body says.2

-- of an event that has ended only what it sends can be lost
abbrev pub IsUnsent : {F : Type 0} → AnswerError F → Type 0
IsUnsent (error.Stream why) = ⊥
IsUnsent error.WrongParty = ⊥
IsUnsent (error.Groups fault) = ⊥
IsUnsent (error.Unsent why) = Unit {0}

pub only_unsent : {F : Type 0} (group : ℕ) (end : Ended SnapshotBytes) (e : AnswerError F) → IsOutcomeOf group end (Err e) → IsUnsent e
only_unsent group (ended.Done messages) (error.Stream why) is = is
only_unsent group (ended.Done messages) error.WrongParty is = is
only_unsent group (ended.Done messages) (error.Groups fault) is = is
only_unsent group (ended.Done messages) (error.Unsent why) is = tt
only_unsent group (ended.Refused why) e is = absurd (let no : Err e ≡ Ok (outcome.Refused why) = is in cc)
only_unsent group ended.Stopped e is = absurd (let no : Err e ≡ Ok outcome.Down = is in cc)
only_unsent group ended.Skipped e is = absurd (let no : Err e ≡ Ok outcome.Down = is in cc)

-- what an event's end is answered by is no fault of the groups
pub taken_as : {F : Type 0} (breaks : Broken F → Member → Type 0) (stands : SnapshotBytes → Snapshot → Type 0) (n : Node) (group : ℕ) (s : GroupState) (event : GroupEvent) (end : Ended SnapshotBytes) (answer : Result Outcome (AnswerError F))
    → HasMember n.own n.members group (λ member. HasEnded stands n.is_well (n.shows group) n.own s event None member end) → IsOutcomeOf group end answer → IsTakenOr breaks stands n group s event answer
taken_as breaks stands n group s event end (Ok done) h is = (end, h, is)
taken_as breaks stands n group s event end (Err (error.Stream why)) h is = (end, h, is)
taken_as breaks stands n group s event end (Err error.WrongParty) h is = (end, h, is)
taken_as breaks stands n group s event end (Err (error.Unsent why)) h is = (end, h, is)
taken_as breaks stands n group s event end (Err (error.Groups fault)) h is = absurd (only_unsent group end (error.Groups fault) is)

-- it came to its group
pub ended_came : {F : Type 0} (group : ℕ) (end : Ended SnapshotBytes) (answer : Result Outcome (AnswerError F)) → IsOutcomeOf group end answer → IsTurnedAway answer → ⊥
ended_came group end (Ok done) is away = away
ended_came group end (Err (error.Stream why)) is away = only_unsent group end (error.Stream why) is
ended_came group end (Err error.WrongParty) is away = only_unsent group end error.WrongParty is
ended_came group end (Err (error.Groups fault)) is away = only_unsent group end (error.Groups fault) is
ended_came group end (Err (error.Unsent why)) is away = away

-- and the node goes on
pub ended_goes_on : {F : Type 0} (group : ℕ) (old new : Bool) (end : Ended SnapshotBytes) (answer : Result Outcome (AnswerError F)) → IsOutcomeOf group end answer → new ≡ old → GoesOn old answer new
ended_goes_on group old new end (Ok done) is same = same
ended_goes_on group old new end (Err (error.Stream why)) is same = same
ended_goes_on group old new end (Err error.WrongParty) is same = same
ended_goes_on group old new end (Err (error.Unsent why)) is same = same
ended_goes_on group old new end (Err (error.Groups fault)) is same = absurd (only_unsent group end (error.Groups fault) is)

-- what the groups refuse, or stop at, the node answers so
pub groups_goes_on : {F : Type 0} (old new : Bool) (fault : GroupsFault F) → GroupsGoesOn {T = Ended SnapshotBytes} old (Err fault) new → GoesOn old (Err (error.Groups fault)) new
groups_goes_on old new groups_fault.Failed same = same
groups_goes_on old new groups_fault.UnknownGroup same = same
groups_goes_on old new groups_fault.GroupExists same = same
groups_goes_on old new (groups_fault.Stopped met) is = is

pub groups_turned_away : {F : Type 0} (fault : GroupsFault F) → IsTurnedAway (Err (error.Groups fault)) → GroupsTurnedAway {T = Ended SnapshotBytes} (Err fault)
groups_turned_away groups_fault.Failed away = tt
groups_turned_away groups_fault.UnknownGroup away = tt
groups_turned_away groups_fault.GroupExists away = tt
groups_turned_away (groups_fault.Stopped met) away = away
