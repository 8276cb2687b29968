-- What a piece of a peer's stream does to a node.
use Rattle.std.specs.Prelude.{◌≡◌, ◌<◌, ◌+◌, ◌⊎◌, ℕ, true, false, List, [], ◌∷◌, ◌++◌, drop, length, Option, Some, None, Result, Ok, Err}
use Rattle.raft_group_step.specs.GroupEvent.{Receive}
use Rattle.raft_group_step.specs.Message.{Message as Said}
use Rattle.raft_group_step.specs.StoredGroup.{Snapshot}
use Rattle.raft_group_storage.specs.Keeping.{KeepsAll}
use Rattle.raft_messages.specs.declared.memberships.SnapshotBytes.{SnapshotBytes}
use Rattle.raft_executor.specs.Said.{Says}
use Rattle.raft_framed_groups.specs.Answers.{is_right_party}
use Rattle.raft_machines.specs.Machine.{MachineRules}
use Rattle.raft_wire.specs.Stream.{Answers, Feeding, IsSpelledSo, fresh, holding}
use Rattle.raft_wire.specs.declared.error.FrameError.{FrameError}
use Rattle.raft_wire.specs.declared.frame.Frame.{Frame}
use Rattle.raft_node_faults.specs.declared.fault.Fault.{Fault}
use Rattle.raft_node_faults.specs.declared.fault.Fault.TheVariants as fault
use Rattle.raft_node_faults.specs.declared.fault.Cause.TheVariants as cause
use Rattle.raft_node.specs.Ending.{Leads, StaysElse}
use Rattle.raft_node.specs.Settling.{IsStoppedBy, IsStreamFault, IsTold}
use Rattle.raft_node.specs.Standing.{NodeValue}
use Rattle.raft_node.specs.declared.outcome.Outcome.{Outcome}

-- ---- a frame

-- A frame of a peer comes to its group, whatever its message says. One of a wrong party, and one of a group that isn't there,
-- are refused, and all is as it was
pub record IsFrame {F : Type 0} (rules : MachineRules) (stands : SnapshotBytes → Snapshot → Type 0) (same : Type 0)
    (old new : NodeValue) (peer : ℕ) (frame : Frame) (now : ℕ) (result : Result Outcome (Fault F)) : Type 0 where
  pub leads : is_right_party old.groups.own peer frame ≡ true → (m : Said) → Says stands frame.message m
      → Leads rules stands old new frame.group (Receive frame.message.sender m now) result
  pub elsewhere : StaysElse old new frame.group result
  pub wrong : is_right_party old.groups.own peer frame ≡ false → (result ≡ Err fault.WrongParty) × same
  pub unknown : is_right_party old.groups.own peer frame ≡ true → old.groups.has_failed ≡ false → old.groups.members frame.group ≡ None
      → (result ≡ Err fault.UnknownGroup) × same

-- ---- a piece

-- all stays but what is held of the peer's stream
pub record StaysBut (old new : NodeValue) (peer : ℕ) : Type 0 where
  pub own : new.groups.own ≡ old.groups.own
  pub has_failed : new.groups.has_failed ≡ old.groups.has_failed
  pub members : (group : ℕ) → new.groups.members group ≡ old.groups.members group
  pub well : old.groups.is_well → new.groups.is_well
  pub running : (group : ℕ) → new.running group ≡ old.running group
  pub kept : KeepsAll old.groups.shows new.groups.shows

-- the node, with what is held of streams in the other one
abbrev pub fed_as : NodeValue → NodeValue → NodeValue
fed_as old new = record { groups = old.groups; running = old.running; streams = new.streams }

module _ {F : Type 0} (rules : MachineRules) (stands : SnapshotBytes → Snapshot → Type 0) (old new : NodeValue) (peer now : ℕ) where
  abbrev pub IsOutcomeOfFrame : Frame → Result (Option Outcome) (Fault F) → Type 0
  IsOutcomeOfFrame frame (Ok None) = ⊥
  IsOutcomeOfFrame frame (Ok (Some o)) = IsFrame {F = F} rules stands (StaysBut old new peer) (fed_as old new) new peer frame now (Ok o)
  IsOutcomeOfFrame frame (Err why) = IsFrame {F = F} rules stands (StaysBut old new peer) (fed_as old new) new peer frame now (Err why)

  abbrev pub IsRefusedStream : FrameError → Result (Option Outcome) (Fault F) → Type 0
  IsRefusedStream met (Ok o) = ⊥
  IsRefusedStream met (Err why) = IsStreamFault met why × IsTold (StaysBut old new peer) (fed_as old new) new why

  -- what came of what was read: nothing yet, a frame, or a fault
  abbrev pub IsReadAs : Result (Option Frame) FrameError → Result (Option Outcome) (Fault F) → Type 0
  IsReadAs (Ok None) outcome = (outcome ≡ Ok None) × StaysBut old new peer
  IsReadAs (Ok (Some frame)) outcome = IsOutcomeOfFrame frame outcome
  IsReadAs (Err met) outcome = IsRefusedStream met outcome

  -- the piece was read up to the end of its first frame, and this came of it
  pub record TakesPiece (piece : List ℕ) (used : ℕ) (outcome : Result (Option Outcome) (Fault F)) : Type 0 where
    pub read : Result (Option Frame) FrameError
    pub answers : Answers (old.streams peer) piece used read (new.streams peer)
    pub spelled : IsSpelledSo (old.streams peer).held piece used read
    pub others : (other : ℕ) → (other ≡ peer → ⊥) → new.streams other ≡ old.streams other
    pub comes : IsReadAs read outcome

  -- memory was lacking for a stream or for what a frame does: nothing of the piece was taken, and the node stopped
  abbrev pub LacksRoom : ℕ → Result (Option Outcome) (Fault F) → Type 0
  LacksRoom used (Ok o) = ⊥
  LacksRoom used (Err why) = (used ≡ 0) × IsStoppedBy cause.Memory why × IsTold ⊥ old new why

  abbrev pub TakesNext : List ℕ → ℕ → Result (Option Outcome) (Fault F) → Type 0
  TakesNext piece used outcome = TakesPiece piece used outcome ⊎ LacksRoom used outcome

-- ---- a whole piece

-- the bytes of the peer's stream that are held, and the piece
abbrev pub so_far : NodeValue → ℕ → List ℕ → List ℕ
so_far n peer piece = (n.streams peer).held ++ piece

module _ {F N : Type 0} (value : N → NodeValue) (rules : MachineRules) (stands : SnapshotBytes → Snapshot → Type 0) (peer now : ℕ) where
  -- bytes of a piece were left, and this came of them
  abbrev pub Comes : N → N → List ℕ → ℕ → Result (Option Outcome) (Fault F) → Type 0
  Comes old new piece used outcome = (0 < length piece) × TakesNext rules stands (value old) (value new) peer now piece used outcome

  -- behind the frames that were taken nothing is left, or no frame gets whole; or this is refused, or stops
  abbrev pub EndsFeeding : Option (Fault F) → N → N → List ℕ → ℕ → Type 0
  EndsFeeding None old new piece used = ((piece ≡ []) × (used ≡ 0) × (new ≡ old)) ⊎ Comes old new piece used (Ok None)
  EndsFeeding (Some why) old new piece used = Comes old new piece used (Err why)

  -- each frame that got whole came to its group, in order
  abbrev pub FeedsTo : List Outcome → Option (Fault F) → N → N → List ℕ → ℕ → Type 0
  FeedsTo [] fault old new piece used = EndsFeeding fault old new piece used
  FeedsTo (o ∷ os) fault old new piece used =
      (mid : N) × (first : ℕ) × (rest : ℕ) × (used ≡ first + rest) × Comes old mid piece first (Ok (Some o))
      × FeedsTo os fault mid new (drop first piece) rest

-- ---- a piece of one frame

-- the peer's stream is left so, and the other ones as they were
abbrev pub LeavesStream : NodeValue → NodeValue → ℕ → Feeding → Type 0
LeavesStream old new peer feeding = (new.streams peer ≡ feeding) × ((other : ℕ) → (other ≡ peer → ⊥) → new.streams other ≡ old.streams other)

module _ {F : Type 0} (rules : MachineRules) (stands : SnapshotBytes → Snapshot → Type 0) (old new : NodeValue) (peer now : ℕ) where
  -- the frame got whole, and came to its group; nothing is held of the stream
  abbrev pub FrameCame : Frame → Result Outcome (Fault F) → Type 0
  FrameCame frame result = LeavesStream old new peer fresh × IsFrame {F = F} rules stands (StaysBut old new peer) (fed_as old new) new peer frame now result

  -- memory was lacking, and nothing of the piece was taken: the node stopped, and streams are as they were
  abbrev pub StopsForRoom : ℕ → Fault F → Type 0
  StopsForRoom used why = (used ≡ 0) × IsStoppedBy cause.Memory why × IsTold ⊥ old new why

  -- a piece that ends with this frame: so it came, or memory was lacking
  abbrev pub FeedsWhole : Frame → List ℕ → List Outcome → Option (Fault F) → ℕ → Type 0
  FeedsWhole frame piece [] None used = ⊥
  FeedsWhole frame piece [] (Some why) used = ((used ≡ length piece) × FrameCame frame (Err why)) ⊎ StopsForRoom used why
  FeedsWhole frame piece (o ∷ []) None used = (used ≡ length piece) × FrameCame frame (Ok o)
  FeedsWhole frame piece (o ∷ []) (Some why) used = ⊥
  FeedsWhole frame piece (o ∷ (p ∷ os)) fault used = ⊥

  -- a piece that ends before its frame does: it is held, or memory was lacking
  abbrev pub FeedsPart : List ℕ → List Outcome → Option (Fault F) → ℕ → Type 0
  FeedsPart piece [] None used = (used ≡ length piece) × LeavesStream old new peer (holding (so_far old peer piece)) × StaysBut old new peer
  FeedsPart piece [] (Some why) used = StopsForRoom used why
  FeedsPart piece (o ∷ os) fault used = ⊥
