-- What a group's answer becomes at its node, and what is asked of the node for that.
use Rattle.std.specs.Prelude.{◌≡◌, ℕ, true, List, Option, Result, Ok, Err}
use Rattle.raft_group_step.specs.GroupEvent.{GroupEvent}
use Rattle.raft_group_step.specs.GroupState.{GroupState, Untold}
use Rattle.raft_group_step.specs.GroupStep.{group_step}
use Rattle.raft_group_step.specs.StoredGroup.{Snapshot}
use Rattle.raft_group_storage.specs.Keeping.{FailsAnyhow, KeepsAll, KeepsFails}
use Rattle.raft_messages.specs.declared.memberships.SnapshotBytes.{SnapshotBytes}
use Rattle.raft_laws.specs.GroupWorld.{Up}
use Rattle.raft_member.specs.Member.{HasBrokenOff}
use Rattle.raft_member.specs.declared.member.Broken.TheVariants as broken
use Rattle.raft_groups.specs.declared.fault.GroupsFault.{GroupsFault}
use Rattle.raft_groups.specs.declared.fault.GroupsFault.TheVariants as groups_fault
use Rattle.raft_applier.specs.Applied.{HasGone}
use Rattle.raft_applier.specs.Following.{with_brought}
use Rattle.raft_applier.specs.declared.applied.Progress.{Progress}
use Rattle.raft_framed_groups.specs.Answers.{IsTakenOr, Stands}
use Rattle.raft_framed_groups.specs.declared.answering.AnswerError.{AnswerError}
use Rattle.raft_framed_groups.specs.declared.answering.AnswerError.TheVariants as error
use Rattle.raft_framed_groups.specs.declared.answering.Outcome.{Outcome as Framed}
use Rattle.raft_framed_groups.specs.declared.answering.Outcome.TheVariants as framed
use Rattle.raft_framed_groups.specs.declared.frames.GroupFrame.{GroupFrame}
use Rattle.raft_machines.specs.Machine.{MachineRules}
use Rattle.raft_wire.specs.declared.error.FrameError.{FrameError}
use Rattle.raft_wire.specs.declared.error.FrameError.TheVariants as frame_error
use Rattle.raft_node_faults.specs.Fault.{cause_of, fault_of_refusal}
use Rattle.raft_node_faults.specs.declared.fault.Cause.{Cause}
use Rattle.raft_node_faults.specs.declared.fault.Cause.TheVariants as cause
use Rattle.raft_node_faults.specs.declared.fault.Fault.{Fault}
use Rattle.raft_node_faults.specs.declared.fault.Fault.TheVariants as fault
use Rattle.raft_node.specs.Running.{Running, RunsAt}
use Rattle.raft_node.specs.Standing.{IsAt, NodeValue}
use Rattle.raft_node.specs.Ending.{FailsBy, GoesOn}
use Rattle.raft_node.specs.Waiting.{AreNamed, named_of}
use Rattle.raft_node.specs.declared.outcome.Outcome.{Outcome}

-- it is a stop for this cause
abbrev pub IsStoppedBy : {F : Type 0} → Cause F → Fault F → Type 0
IsStoppedBy why (fault.Stopped cause unknown) = cause ≡ why
IsStoppedBy why other = ⊥

-- and names these tokens of each group
abbrev pub IsStopFor : {F : Type 0} → Cause F → (ℕ → List Untold) → Fault F → Type 0
IsStopFor why waiting (fault.Stopped cause unknown) = (cause ≡ why) × ((group : ℕ) → named_of unknown.items group ≡ waiting group)
IsStopFor why waiting other = ⊥

abbrev pub IsOfStorage : {F : Type 0} → Cause F → Type 0
IsOfStorage (cause.Storage why) = Unit {0}
IsOfStorage other = ⊥

-- it is a stop since the storage failed, and names these tokens of each group
abbrev pub IsStorageStop : {F : Type 0} → (ℕ → List Untold) → Fault F → Type 0
IsStorageStop waiting (fault.Stopped cause unknown) = IsOfStorage cause × ((group : ℕ) → named_of unknown.items group ≡ waiting group)
IsStorageStop waiting other = ⊥

-- ---- a fault is told

-- a stop names all tokens that waited, and any other fault leaves all as it was
abbrev pub NamesAll : {F : Type 0} → Type 0 → (ℕ → Option Running) → Fault F → Type 0
NamesAll same running (fault.Stopped cause unknown) = AreNamed running unknown.items
NamesAll same running other = same

-- what is stored stays, and who is there; a stop makes the node fail, and names all that waited
pub record IsTold {F : Type 0} (same : Type 0) (old new : NodeValue) (why : Fault F) : Type 0 where
  pub own : new.groups.own ≡ old.groups.own
  pub members : (group : ℕ) → new.groups.members group ≡ old.groups.members group
  pub well : old.groups.is_well → new.groups.is_well
  pub kept : KeepsAll old.groups.shows new.groups.shows
  pub failed : KeepsFails old.groups.fails new.groups.fails
  pub streams : (peer : ℕ) → new.streams peer ≡ old.streams peer
  pub fails : FailsBy {T = Outcome} old.groups.has_failed (Err why) new.groups.has_failed
  pub names : NamesAll same old.running why

-- why the groups don't take an event
abbrev pub IsGroupsFault : {F : Type 0} → GroupsFault F → Fault F → Type 0
IsGroupsFault groups_fault.Failed why = why ≡ fault.Failed
IsGroupsFault groups_fault.UnknownGroup why = why ≡ fault.UnknownGroup
IsGroupsFault groups_fault.GroupExists why = why ≡ fault.GroupExists
IsGroupsFault (groups_fault.Stopped met) why = IsStoppedBy (cause_of met) why

-- why a stream isn't taken: want of memory stops the node
abbrev pub IsStreamFault : {F : Type 0} → FrameError → Fault F → Type 0
IsStreamFault (frame_error.Fault f) why = why ≡ fault.Frame (frame_error.Fault f)
IsStreamFault frame_error.StreamFailed why = why ≡ fault.Frame frame_error.StreamFailed
IsStreamFault frame_error.Memory why = IsStoppedBy cause.Memory why

-- what an event sends has no frame
abbrev pub cause_of_unsent : {F : Type 0} → FrameError → Cause F
cause_of_unsent (frame_error.Fault f) = cause.Frame (frame_error.Fault f)
cause_of_unsent frame_error.StreamFailed = cause.Frame frame_error.StreamFailed
cause_of_unsent frame_error.Memory = cause.Memory

abbrev pub IsAnswerFault : {F : Type 0} → AnswerError F → Fault F → Type 0
IsAnswerFault (error.Stream met) why = IsStreamFault met why
IsAnswerFault error.WrongParty why = why ≡ fault.WrongParty
IsAnswerFault (error.Groups met) why = IsGroupsFault met why
IsAnswerFault (error.Unsent met) why = IsStoppedBy (cause_of_unsent met) why

-- ---- a machine follows

-- the group's member has done the event, and its machine stands where it stood before
pub record IsBehind (rules : MachineRules) (n : NodeValue) (group : ℕ) (s : GroupState) (e : GroupEvent) : Type 0 where
  pub up : Stands n.groups group (Up (group_step n.groups.own s e).state)
  pub runs : RunsAt rules (n.running group) (with_brought s e)

-- the machine has caught up, and tokens have gone
pub record HasCaughtUp (rules : MachineRules) (n : NodeValue) (group : ℕ) (s : GroupState) (e : GroupEvent) (progress : Progress) : Type 0 where
  pub at : IsAt rules n group (group_step n.groups.own s e).state
  pub gone : HasGone rules (group_step n.groups.own s e) progress

-- so it is with the event, whose outcome has these frames
pub record HasFollowed (rules : MachineRules) (n : NodeValue) (group : ℕ) (s : GroupState) (e : GroupEvent) (frames : List GroupFrame) (o : Outcome) : Type 0 where
  pub of_group : o.group ≡ group
  pub sent : o.frames.items ≡ frames
  pub at : IsAt rules n group (group_step n.groups.own s e).state
  pub gone : HasGone rules (group_step n.groups.own s e) (record { told = o.told; unknown = o.unknown })

-- it has followed, or the storage failed: then all that waited are named, and what is stored stays
abbrev pub FollowsTo : {F : Type 0} → MachineRules → NodeValue → NodeValue → ℕ → GroupState → GroupEvent → List GroupFrame → Result Outcome (Fault F) → Type 0
FollowsTo rules old new group s e frames (Ok o) = HasFollowed rules new group s e frames o
FollowsTo rules old new group s e frames (Err (fault.Stopped (cause.Storage met) unknown)) =
    (new.groups.has_failed ≡ true) × KeepsAll old.groups.shows new.groups.shows × FailsAnyhow new.groups.fails × AreNamed old.running unknown.items
FollowsTo rules old new group s e frames (Err other) = ⊥

-- ---- what a group answered

-- the token that the event brings waits with the others, unless nothing of the event was begun
abbrev pub waits_in : {F : Type 0} → GroupState → GroupEvent → Result Framed (AnswerError F) → GroupState
waits_in s e (Ok (framed.Refused why)) = s
waits_in s e (Err (error.Groups (groups_fault.Stopped (broken.Unjudged met)))) = s
waits_in s e answered = with_brought s e

-- the group was in this state, and this is what became of the event there
abbrev pub IsTakenByGroup : {F : Type 0} → (SnapshotBytes → Snapshot → Type 0) → NodeValue → ℕ → GroupState → GroupEvent → Result Framed (AnswerError F) → Type 0
IsTakenByGroup stands n group s e answered =
    IsTakenOr (λ met member. HasBrokenOff n.groups.is_well (n.groups.shows group) n.groups.fails n.groups.own s e member met) stands n.groups group s e answered

-- the group has answered an event that came to it in this state, and its machine stands where it stood before
pub record IsAnswered {F : Type 0} (rules : MachineRules) (stands : SnapshotBytes → Snapshot → Type 0)
    (n : NodeValue) (group : ℕ) (s : GroupState) (e : GroupEvent) (answered : Result Framed (AnswerError F)) : Type 0 where
  pub taken : IsTakenByGroup stands n group s e answered
  pub runs : RunsAt rules (n.running group) (waits_in s e answered)

-- what is refused is told by its fault, and leaves all as it was
abbrev pub IsPassedOn : {F : Type 0} → Type 0 → Result Framed (AnswerError F) → Result Outcome (Fault F) → Type 0
IsPassedOn same (Ok (framed.Refused why)) result = (result ≡ Err (fault_of_refusal why)) × same
IsPassedOn same (Err error.WrongParty) result = (result ≡ Err fault.WrongParty) × same
IsPassedOn same (Err (error.Groups groups_fault.Failed)) result = (result ≡ Err fault.Failed) × same
IsPassedOn same (Err (error.Groups groups_fault.UnknownGroup)) result = (result ≡ Err fault.UnknownGroup) × same
IsPassedOn same (Err (error.Groups groups_fault.GroupExists)) result = (result ≡ Err fault.GroupExists) × same
IsPassedOn same (Err (error.Groups (groups_fault.Stopped met))) result = GoesOn result → ⊥
IsPassedOn same answered result = Unit {0}
