-- What a step stores and sends fits the limits, where what the node has and is sent does.
use Rattle.std.specs.Prelude.{◌≡◌, ℕ, ◌+◌, ◌<◌, ◌≤◌, false, List, [], ◌∷◌, length, slice_get, Option, Some, None, IsTrue, All, IfSome}
use Rattle.raft_values.specs.declared.log_id.LogId.{LogId}
use Rattle.raft_values.specs.LogId.{next_place}
use Rattle.raft_group_step.specs.Limits.{entries_in_request}
use Rattle.raft_group_step.specs.Values.{Entry, EntryPayload, LoggedMembership, is_within_limits}
use Rattle.raft_group_step.specs.Refusal.{is_payload_short}
use Rattle.raft_group_step.specs.StoredGroup.{Snapshot, StoredGroup, after_storing, end_place, first_place, has_id_in_log, snapshot_last}
use Rattle.raft_group_step.specs.StoredGroup.{StoringCommand, MakeGroup, SetVote, PutEntries, CutFrom, RemoveUpTo, SetSnapshot, StartAfter}
use Rattle.raft_group_step.specs.Message.{AppendFields, Message, MessageBody, VoteRequest, VoteReply, AppendRequest, AppendReply, SnapshotRequest, SnapshotReply}
use Rattle.raft_group_step.specs.Message.{Conflict, HigherVote, Numbered, PartialSuccess, ReplyFields, ReplyResult, Success}
use Rattle.raft_group_step.specs.GroupState.{GroupState}
use Rattle.raft_group_step.specs.GroupEvent.{GroupEvent, AddGroup, Call, Receive, Open}
use Rattle.raft_group_step.specs.StepResult.{StepResult}
use Rattle.raft_group_step.specs.SnapshotRequest.{place_above}
use Rattle.raft_group_step.specs.GroupStep.{group_step}
use Rattle.raft_laws.specs.Stop.{stopped_after}

-- ---- entries

-- a command is within its limit, and a membership within its own
abbrev pub IsPayloadBounded : EntryPayload → Type 0
IsPayloadBounded p = IsTrue (is_payload_short p)

abbrev pub FitEntries : List Entry → Type 0
FitEntries es = All (λ (e : Entry). IsPayloadBounded e.payload) es

-- the entries have the places from this one on, one after the other
abbrev pub ArePlacedFrom : ℕ → List Entry → Type 0
ArePlacedFrom start es = (i : ℕ) (e : Entry) → slice_get es i ≡ Some e → e.log_id.index ≡ start + i

-- ---- what a node has

abbrev pub IsLoggedBounded : Option LoggedMembership → Type 0
IsLoggedBounded m = IfSome m (λ (x : LoggedMembership). IsTrue (is_within_limits x.membership))

pub record IsSnapshotBounded (x : Snapshot) : Type 0 where
  pub entries : FitEntries x.«prefix»
  pub membership : IsLoggedBounded x.membership

pub record FitsStored (s : StoredGroup) : Type 0 where
  pub entries : FitEntries s.log
  pub placed : ArePlacedFrom (first_place s) s.log
  pub snapshot : IfSome s.snapshot IsSnapshotBounded

-- what is committed reaches up to the log's front at least, and no further than its end
pub record IsCommittedWithin (s : GroupState) : Type 0 where
  pub begins : first_place s.stored ≤ place_above s.committed
  pub ends : place_above s.committed ≤ end_place s.stored

-- ---- what is sent

-- few entries a request, which follow the previous one
pub record FitsRequest (m : AppendFields) : Type 0 where
  pub count : length m.entries ≤ entries_in_request
  pub entries : FitEntries m.entries
  pub placed : ArePlacedFrom (next_place m.previous) m.entries

-- the reply tells of no part of its request: a partial success is read, and never sent
abbrev pub IsWhole : ReplyResult → Type 0
IsWhole Success = Unit {0}
IsWhole (PartialSuccess last) = ⊥
IsWhole Conflict = Unit {0}
IsWhole (HigherVote vote) = Unit {0}

-- the reply to a snapshot has its request's number and no previous log id, and tells of no conflict and of no part
pub record IsSnapshotReplyBounded (m : ReplyFields) : Type 0 where
  pub number : ℕ
  pub numbered : m.id ≡ Numbered number
  pub previous : m.previous ≡ None
  pub agrees : m.outcome ≡ Conflict → ⊥
  pub whole : IsWhole m.outcome

abbrev pub IsBodyBounded : MessageBody → Type 0
IsBodyBounded (VoteRequest vote last) = Unit {0}
IsBodyBounded (VoteReply vote granted last) = Unit {0}
IsBodyBounded (AppendRequest m) = FitsRequest m
IsBodyBounded (AppendReply m) = IsWhole m.outcome
IsBodyBounded (SnapshotRequest vote id snapshot) = IsSnapshotBounded snapshot
IsBodyBounded (SnapshotReply m) = IsSnapshotReplyBounded m

-- what comes in a message fits
abbrev pub FitsEvent : GroupEvent → Type 0
FitsEvent AddGroup = Unit {0}
FitsEvent (Call call now) = Unit {0}
FitsEvent (Receive peer m now) = IsBodyBounded m.body
FitsEvent Open = Unit {0}

-- and what is committed is within the log as a message comes
abbrev pub ComesWithin : GroupState → GroupEvent → Type 0
ComesWithin s AddGroup = Unit {0}
ComesWithin s (Call call now) = Unit {0}
ComesWithin s (Receive peer m now) = IsCommittedWithin s
ComesWithin s Open = Unit {0}

-- ---- what is stored

-- as many entries as a request has are put at most, at their places, right behind the log: so a put never shortens it
pub record FitsPut (s : StoredGroup) (place : ℕ) (es : List Entry) : Type 0 where
  pub at_end : place ≡ end_place s
  pub count : length es ≤ entries_in_request
  pub entries : FitEntries es
  pub placed : ArePlacedFrom place es

-- a log is dropped that lacks the snapshot's last entry, and begins anew right behind that: so its front never comes back
pub record FitsStart (s : StoredGroup) (id : LogId ℕ) : Type 0 where
  pub behind_snapshot : snapshot_last s ≡ Some id
  pub goes_on : first_place s ≤ id.index
  pub lacks : has_id_in_log s id ≡ false

abbrev pub FitsStoring : StoredGroup → StoringCommand → Type 0
FitsStoring s MakeGroup = Unit {0}
FitsStoring s (SetVote vote) = Unit {0}
FitsStoring s (PutEntries place es) = FitsPut s place es
FitsStoring s (CutFrom place) = (first_place s ≤ place) × (place < end_place s)
FitsStoring s (RemoveUpTo id) = first_place s ≤ id.index + 1
FitsStoring s (SetSnapshot snapshot) = IsSnapshotBounded snapshot
FitsStoring s (StartAfter id) = FitsStart s id

-- each of these commands, in their order
abbrev pub AllFit : StoredGroup → List StoringCommand → Type 0
AllFit s [] = Unit {0}
AllFit s (c ∷ cs) = FitsStoring s c × AllFit (after_storing c s) cs

-- ---- the law

-- what a step stores and sends, what is left at its end, and what a stop leaves after any number of its commands
pub record StepFits (s : GroupState) (r : StepResult) : Type 0 where
  pub commands : AllFit s.stored r.commands
  pub messages : All (λ (m : Message). IsBodyBounded m.body) r.messages
  pub stored : FitsStored r.state.stored
  pub stops : (k : ℕ) → FitsStored (stopped_after k s.stored r)

abbrev pub StepsFit : Type 0
StepsFit =
    (own : ℕ) (s : GroupState) (e : GroupEvent) → FitsStored s.stored → ComesWithin s e → FitsEvent e
    → StepFits s (group_step own s e)
