-- Frames of a group's messages.
use Rattle.std.specs.Prelude.{◌≡◌, ℕ, List, Some, Contains}
use Rattle.raft_list_facts.specs.Accepting.{accepted_by}
use Rattle.raft_messages.specs.declared.message.Message.{Message}
use Rattle.raft_messages.specs.declared.memberships.SnapshotBytes.{SnapshotBytes}
use Rattle.raft_wire.specs.Frames.{FitsFrame, fault_of_frame, spelled_frame}
use Rattle.raft_wire.specs.declared.error.FrameError.{FrameError}
use Rattle.raft_wire.specs.declared.error.FrameError.TheVariants as frame_error
use Rattle.raft_wire.specs.declared.frame.Frame.{Frame}
use Rattle.raft_framed_groups.specs.declared.frames.GroupFrame.{GroupFrame}

-- the group's frame of a message
abbrev pub frame_with : ℕ → Message SnapshotBytes → Frame
frame_with group m = record { group = group; message = m }

-- the message goes to its addressee as the one spelling of its frame, which is within the limits, and what it accepts is told
pub record IsFramed (own_group : ℕ) (m : Message SnapshotBytes) (sent : GroupFrame) : Type 0 where
  pub group : sent.group ≡ own_group
  pub to : sent.addressee ≡ m.addressee
  pub fits : FitsFrame (frame_with own_group m)
  pub bytes : sent.bytes.items ≡ spelled_frame (frame_with own_group m)
  pub accepts : sent.accepts ≡ accepted_by m.body

-- the message has no frame, by this fault, or memory is lacking
abbrev pub IsNotFramed : ℕ → Message SnapshotBytes → FrameError → Type 0
IsNotFramed group m (frame_error.Fault f) = fault_of_frame m.body ≡ Some f
IsNotFramed group m frame_error.StreamFailed = ⊥
IsNotFramed group m frame_error.Memory = Unit {0}

-- one of the messages isn't framed
abbrev pub AnyNotFramed : ℕ → List (Message SnapshotBytes) → FrameError → Type 0
AnyNotFramed group ms why = (m : Message SnapshotBytes) × Contains ms m × IsNotFramed group m why
