-- What stands at the front of a stream of frames, and what a feeder answers.
use Rattle.std.specs.Prelude.{◌≡◌, ◌≤◌, ◌+◌, ℕ, Bool, true, false, List, [], ◌++◌, length, take, drop}
use Rattle.std.specs.Prelude.{nat_lt, Option, Some, None, Result, Ok, Err, if◌then◌else◌}
use Rattle.std.specs.Int.{w32, from_be_bytes}
pub use Rattle.raft_bytes.specs.Bytes.{AreBytes}
use Rattle.raft_wire.specs.declared.error.FrameFault.{FrameFault}
use Rattle.raft_wire.specs.declared.error.FrameFault.TheVariants as fault
use Rattle.raft_wire.specs.declared.error.FrameError.{FrameError}
use Rattle.raft_wire.specs.declared.error.FrameError.TheVariants as errors
use Rattle.raft_wire.specs.declared.frame.Frame.{Frame}
use Rattle.raft_wire.specs.Reader.{all_of}
use Rattle.raft_wire.specs.Frames.{rest_at, spelled_frame, FitsFrame}

-- a frame or the first fault, and how many bytes it takes
abbrev pub Judged : Type 0
Judged = Result Frame FrameFault × ℕ

-- ---- the length

-- the length field, once its four bytes are there
abbrev pub length_in : List ℕ → Option ℕ
length_in bytes = if nat_lt (length bytes) 4 then None else Some (from_be_bytes w32 (take 4 bytes))

-- how many bytes the shortest frame has behind its length, and the longest one
abbrev pub shortest_frame : ℕ
shortest_frame = 25

abbrev pub longest_frame : ℕ
longest_frame = 17825788

-- a frame is neither shorter nor longer
abbrev pub fault_of_length : ℕ → Option FrameFault
fault_of_length n =
    if nat_lt n shortest_frame then Some fault.CutShort
    else if nat_lt longest_frame n then Some fault.TooLong
    else None

-- ---- the front

-- the frame of this length, once its last byte is there
abbrev pub judged_frame : List ℕ → ℕ → Option Judged
judged_frame bytes n =
    if nat_lt (length bytes) (n + 4) then None else Some (all_of rest_at (take n (drop 4 bytes)), n + 4)

abbrev pub judged_length : List ℕ → ℕ → Option FrameFault → Option Judged
judged_length bytes n (Some why) = Some (Err why, 4)
judged_length bytes n None = judged_frame bytes n

abbrev pub judged : List ℕ → Option ℕ → Option Judged
judged bytes None = None
judged bytes (Some n) = judged_length bytes n (fault_of_length n)

-- what stands at the front: nothing that can be judged yet, a frame, or the first fault
unfoldable pub front : List ℕ → Option Judged
front bytes = judged bytes (length_in bytes)

-- the bytes are found at the front of a stream as this frame, whatever follows
abbrev pub AreFoundAs : List ℕ → Frame → Type 0
AreFoundAs bytes frame = (more : List ℕ) → front (bytes ++ more) ≡ Some (Ok frame, length bytes)

-- ---- feeders

-- the bytes of a frame that isn't whole yet, and whether the stream has failed
pub record Feeding : Type 0 where
  pub held : List ℕ
  pub failed : Bool

-- how many bytes the frame at the front has, its length among them; only the length while that isn't there
abbrev pub whole_of : Option ℕ → ℕ
whole_of None = 4
whole_of (Some n) = n + 4

-- who holds nothing has memory for at most so many bytes
abbrev pub idle_room : ℕ
idle_room = 65536

abbrev pub IsIdleSmall : List ℕ → ℕ → Type 0
IsIdleSmall held room = held ≡ [] → room ≤ idle_room

-- a feeder: what it holds of a stream, and for how many bytes it has memory
pub record FeederValue : Type 0 where
  pub feeding : Feeding
  pub room : ℕ

-- what each feeder holds: bytes, among which neither a frame nor a fault can be found yet
pub record HoldsRightly (held : List ℕ) (room : ℕ) : Type 0 where
  pub bytes : AreBytes held
  pub waits : front held ≡ None
  pub idle : IsIdleSmall held room

abbrev pub fresh : Feeding
fresh = record { held = []; failed = false }

abbrev pub stopped : Feeding
stopped = record { held = []; failed = true }

abbrev pub holding : List ℕ → Feeding
holding bytes = record { held = bytes; failed = false }

-- What feeding a piece answers, how many bytes of it are taken, and what the feeder is then. The stream so far is what
-- was held, and the piece.
abbrev pub Answers : Feeding → List ℕ → ℕ → Result (Option Frame) FrameError → Feeding → Type 0
Answers old piece used (Ok None) new =
    (old.failed ≡ false) × (front (old.held ++ piece) ≡ None) × (used ≡ length piece) × (new ≡ holding (old.held ++ piece))
Answers old piece used (Ok (Some frame)) new =
    (old.failed ≡ false) × (front (old.held ++ piece) ≡ Some (Ok frame, length old.held + used)) × (used ≤ length piece)
    × (new ≡ fresh)
Answers old piece used (Err (errors.Fault why)) new =
    (old.failed ≡ false) × (front (old.held ++ piece) ≡ Some (Err why, length old.held + used)) × (used ≤ length piece)
    × (new ≡ stopped)
Answers old piece used (Err errors.StreamFailed) new = (old.failed ≡ true) × (used ≡ 0) × (new ≡ old)
Answers old piece used (Err errors.Memory) new = (old.failed ≡ false) × (used ≡ 0) × (new ≡ old)

-- a frame that is answered is within its limits, and spelled as what was held and what is taken of the piece
abbrev pub IsSpelledSo : List ℕ → List ℕ → ℕ → Result (Option Frame) FrameError → Type 0
IsSpelledSo held piece used (Ok None) = Unit {0}
IsSpelledSo held piece used (Ok (Some frame)) = FitsFrame frame × (held ++ take used piece ≡ spelled_frame frame)
IsSpelledSo held piece used (Err why) = Unit {0}
