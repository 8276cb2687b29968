-- Which messages of a step have frames, and what a frame brings to a step.
use Rattle.std.specs.Prelude.{◌≡◌, ◌↔◌, ℕ, ◌≤◌, Bool, true, false, List, length, None, All}
use Rattle.raft_values.specs.declared.vote.Vote.{Vote}
use Rattle.raft_group_step.specs.Limits.{snapshot_limit}
use Rattle.raft_group_step.specs.StoredGroup.{Snapshot}
use Rattle.raft_group_step.specs.Message.{Message}
use Rattle.raft_group_step.specs.GroupState.{GroupState}
use Rattle.raft_group_step.specs.GroupEvent.{GroupEvent, Receive}
use Rattle.raft_group_step.specs.GroupStep.{group_step}
use Rattle.raft_group_step.specs.Refusal.{refusal_of}
use Rattle.raft_messages.specs.declared.memberships.SnapshotBytes.{SnapshotBytes}
use Rattle.raft_messages.specs.declared.message.Message.{Message as Sent}
use Rattle.raft_messages.specs.declared.message.MessageBody.{MessageBody as Body}
use Rattle.raft_messages.specs.declared.message.MessageBody.TheVariants as body
use Rattle.raft_executor.specs.Said.{Says, SaysAll}
use Rattle.raft_step_laws.specs.Fitting.{ComesWithin, FitsEvent, FitsStored, IsLoggedBounded}
use Rattle.raft_wire.specs.Frames.{FitsFrame, fault_of_frame}
use Rattle.raft_wire.specs.declared.frame.Frame.{Frame}

abbrev pub brings_snapshot : {X : Type 0} → Body X → Bool
brings_snapshot (body.VoteRequest request) = false
brings_snapshot (body.VoteReply answer) = false
brings_snapshot (body.AppendRequest m) = false
brings_snapshot (body.AppendReply m) = false
brings_snapshot (body.SnapshotRequest vote id x) = true
brings_snapshot (body.SnapshotReply m) = false

-- the message has a frame, or brings a snapshot
abbrev pub HasFrame : Sent SnapshotBytes → Type 0
HasFrame m = brings_snapshot m.body ≡ false → fault_of_frame m.body ≡ None

-- what the snapshot covers and what it has are within the limits
pub record IsShortSnapshot (x : SnapshotBytes) : Type 0 where
  pub membership : IsLoggedBounded x.meta.last_membership
  pub bytes : length x.bytes ≤ snapshot_limit

-- a snapshot's message has a frame exactly where the snapshot is within the limits
abbrev pub SnapshotsHaveFrames : Type 0
SnapshotsHaveFrames =
    (vote : Vote ℕ) (id : ℕ) (x : SnapshotBytes) → fault_of_frame (body.SnapshotRequest vote id x) ≡ None ↔ IsShortSnapshot x

-- the snapshot that the message brings has few enough bytes, if it brings one
abbrev pub BringsFewBytes : Body SnapshotBytes → Type 0
BringsFewBytes (body.VoteRequest request) = Unit {0}
BringsFewBytes (body.VoteReply answer) = Unit {0}
BringsFewBytes (body.AppendRequest m) = Unit {0}
BringsFewBytes (body.AppendReply m) = Unit {0}
BringsFewBytes (body.SnapshotRequest vote id x) = length x.bytes ≤ snapshot_limit
BringsFewBytes (body.SnapshotReply m) = Unit {0}

module _ (stands : SnapshotBytes → Snapshot → Type 0) where
  -- a snapshot has the membership of the one that it stands for
  abbrev pub MembershipsStand : Type 0
  MembershipsStand = (x : SnapshotBytes) (y : Snapshot) → stands x y → x.meta.last_membership ≡ y.membership

  -- then each message of such a step has a frame, one with a snapshot where the snapshot's bytes are few enough
  abbrev pub FewBytesHaveFrames : Type 0
  FewBytesHaveFrames =
      (own : ℕ) (s : GroupState) (e : GroupEvent) (sent : List (Sent SnapshotBytes))
      → MembershipsStand → FitsStored s.stored → ComesWithin s e → FitsEvent e
      → SaysAll stands sent (group_step own s e).messages
      → All (λ (m : Sent SnapshotBytes). BringsFewBytes m.body → fault_of_frame m.body ≡ None) sent

  -- where what a node has fits, and what comes to it, so does each message of its step
  abbrev pub StepsHaveFrames : Type 0
  StepsHaveFrames =
      (own : ℕ) (s : GroupState) (e : GroupEvent) (sent : List (Sent SnapshotBytes))
      → FitsStored s.stored → ComesWithin s e → FitsEvent e
      → SaysAll stands sent (group_step own s e).messages → All HasFrame sent

  -- a message that comes in a frame without a snapshot, and that isn't refused, fits
  abbrev pub FramesFitSteps : Type 0
  FramesFitSteps =
      (own : ℕ) (s : GroupState) (now : ℕ) (frame : Frame) (m : Message)
      → FitsFrame frame → Says stands frame.message m → brings_snapshot frame.message.body ≡ false
      → refusal_of own s (Receive frame.message.sender m now) ≡ None
      → FitsEvent (Receive frame.message.sender m now)
