-- Laws of what stands at the front of a stream.
use Rattle.std.specs.Prelude.{◌≡◌, ◌<◌, ◌≤◌, ◌⊎◌, ◌+◌, ℕ, List, ◌++◌, length, take, Some, None, Ok, Err}
use Rattle.raft_group_step.specs.Values.{Entry}
use Rattle.raft_wire.specs.declared.error.FrameFault.{FrameFault}
use Rattle.raft_wire.specs.declared.frame.Frame.{Frame}
use Rattle.raft_wire.specs.Entries.{spelled_entry, FitsEntry}
use Rattle.raft_wire.specs.Frames.{spelled_rest, spelled_frame, FitsFrame}
use Rattle.raft_wire.specs.Stream.{AreBytes, Judged, length_in, longest_frame, fault_of_length, front}

-- a frame that stands at the front is spelled so, each byte of it
abbrev pub FoundIsSpelled : Type 0
FoundIsSpelled =
    (stream : List ℕ) (frame : Frame) (taken : ℕ) → AreBytes stream → front stream ≡ Some (Ok frame, taken)
    → FitsFrame frame × (take taken stream ≡ spelled_frame frame)

-- a spelled frame is found at the front, whatever follows it
abbrev pub SpelledIsFound : Type 0
SpelledIsFound =
    (frame : Frame) (more : List ℕ) → FitsFrame frame
    → front (spelled_frame frame ++ more) ≡ Some (Ok frame, length (spelled_frame frame))

-- where a fault is found no frame begins, however the stream goes on
abbrev pub RefusedIsNoFrame : Type 0
RefusedIsNoFrame =
    (stream more rest : List ℕ) (why : FrameFault) (taken : ℕ) (frame : Frame) → front stream ≡ Some (Err why, taken)
    → FitsFrame frame → stream ++ more ≡ spelled_frame frame ++ rest → ⊥

-- what is found stays, whatever follows
abbrev pub FoundStays : Type 0
FoundStays = (stream more : List ℕ) (found : Judged) → front stream ≡ Some found → front (stream ++ more) ≡ Some found

-- nothing is found only until the length is whole and, where it fits, the frame's last byte is there
abbrev pub WaitsOnlySoLong : Type 0
WaitsOnlySoLong =
    (stream : List ℕ) → front stream ≡ None
    → (length stream < 4) ⊎ ((n : ℕ) × (length_in stream ≡ Some n) × (fault_of_length n ≡ None) × (length stream < n + 4))

-- no spelling of a frame begins another
abbrev pub NoFrameBeginsAnother : Type 0
NoFrameBeginsAnother =
    (a b : Frame) (x y : List ℕ) → FitsFrame a → FitsFrame b → spelled_frame a ++ x ≡ spelled_frame b ++ y
    → (a ≡ b) × (x ≡ y)

-- no spelling of an entry begins another
abbrev pub NoEntryBeginsAnother : Type 0
NoEntryBeginsAnother =
    (a b : Entry) (x y : List ℕ) → FitsEntry a → FitsEntry b → spelled_entry a ++ x ≡ spelled_entry b ++ y
    → (a ≡ b) × (x ≡ y)

-- no frame is longer than the longest one
abbrev pub FramesAreShort : Type 0
FramesAreShort = (frame : Frame) → FitsFrame frame → length (spelled_rest frame) ≤ longest_frame
