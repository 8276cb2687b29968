-- What a piece brings to the bytes that are held.
use Rattle.std.specs.Prelude.{◌≡◌, ◌≤◌, ◌+◌, ℕ, List, [], ◌++◌, length, take, drop, Option, Some, None, Result, Ok, Err}
use Rattle.raft_wire.specs.declared.error.FrameError.{FrameError}
use Rattle.raft_wire.specs.declared.error.FrameError.TheVariants as errors
use Rattle.raft_wire.specs.declared.feeder.Wanted.{Wanted}
use Rattle.raft_wire.specs.declared.feeder.Wanted.TheVariants as wanted
use Rattle.raft_wire.specs.declared.frame.Frame.{Frame}
use Rattle.raft_wire.specs.Reader.{all_of}
use Rattle.raft_wire.specs.Frames.{rest_at}
use Rattle.raft_wire.specs.Stream.{front, length_in, longest_frame, whole_of}

-- more bytes up to so many, or so many bytes of the piece up to a wrong length or to the end of a frame
abbrev pub IsWanted : List ℕ → List ℕ → Wanted → Type 0
IsWanted held piece (wanted.More whole) =
    (front (held ++ piece) ≡ None) × (whole ≡ whole_of (length_in (held ++ piece))) × (length (held ++ piece) ≤ whole)
    × (whole ≤ longest_frame + 4)
IsWanted held piece (wanted.Fault why used) =
    (front (held ++ piece) ≡ Some (Err why, length held + used)) × (used ≤ length piece)
IsWanted held piece (wanted.Frame used) =
    (front (held ++ piece) ≡ Some (all_of rest_at (drop 4 (held ++ take used piece)), length held + used))
    × (used ≤ length piece) × (4 ≤ length (held ++ take used piece)) × (length (held ++ take used piece) ≤ longest_frame + 4)

-- what is held after a frame was read: as before without memory, else nothing
abbrev pub HeldAfter : List ℕ → Result Frame FrameError → List ℕ → Type 0
HeldAfter old (Err errors.Memory) new = new ≡ old
HeldAfter old (Err errors.StreamFailed) new = ⊥
HeldAfter old (Err (errors.Fault why)) new = new ≡ []
HeldAfter old (Ok frame) new = new ≡ []

-- what is answered of a piece and held then, where the stream hasn't failed
abbrev pub Takes : List ℕ → List ℕ → ℕ → Result (Option Frame) FrameError → List ℕ → Type 0
Takes held piece used (Ok None) new = (front (held ++ piece) ≡ None) × (used ≡ length piece) × (new ≡ held ++ piece)
Takes held piece used (Ok (Some frame)) new =
    (front (held ++ piece) ≡ Some (Ok frame, length held + used)) × (used ≤ length piece) × (new ≡ [])
Takes held piece used (Err (errors.Fault why)) new =
    (front (held ++ piece) ≡ Some (Err why, length held + used)) × (used ≤ length piece) × (new ≡ [])
Takes held piece used (Err errors.StreamFailed) new = ⊥
Takes held piece used (Err errors.Memory) new = (used ≡ 0) × (new ≡ held)

-- a fact for a frame that was read
abbrev pub IfFrame : Result (Option Frame) FrameError → Type 0 → Type 0
IfFrame (Ok (Some frame)) fact = fact
IfFrame (Ok None) fact = Unit {0}
IfFrame (Err why) fact = Unit {0}
