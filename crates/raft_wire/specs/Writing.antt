-- What a call that writes answers.
use Rattle.std.specs.Prelude.{◌≡◌, ℕ, List, Option, Some, None, Result, Ok, Err}
use Rattle.std.specs.Prelude.{Vec, if◌then◌else◌}
use Rattle.std.specs.declared.alloc.Global.{Global}
use Rattle.raft_group_step.specs.Refusal.{is_payload_short}
use Rattle.raft_group_step.specs.Values.{Entry}
use Rattle.raft_wire.specs.declared.error.FrameFault.{FrameFault}
use Rattle.raft_wire.specs.declared.error.FrameFault.TheVariants as fault
use Rattle.raft_wire.specs.declared.error.FrameError.{FrameError}
use Rattle.raft_wire.specs.declared.error.FrameError.TheVariants as errors

-- The bytes are written where nothing is wrong with the value. What is wrong is answered before memory is asked for.
abbrev pub Writes : Option FrameFault → List ℕ → Result (Vec ℕ Global) FrameError → Type 0
Writes wrong bytes (Ok v) = (wrong ≡ None) × (v.items ≡ bytes)
Writes wrong bytes (Err errors.Memory) = wrong ≡ None
Writes wrong bytes (Err (errors.Fault f)) = wrong ≡ Some f
Writes wrong bytes (Err errors.StreamFailed) = ⊥

-- ---- entries

-- a command or membership past its limits
abbrev pub fault_of_entry : Entry → Option FrameFault
fault_of_entry e = if is_payload_short e.payload then None else Some fault.TooLong
