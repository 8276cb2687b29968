-- The numbers and names of refusals.
use Rattle.std.specs.Prelude.{ℕ, List, codes}
use Rattle.raft_wire.specs.declared.error.FrameFault.TheVariants as fault
use Rattle.raft_wire.specs.declared.error.FrameError.{FrameError}
use Rattle.raft_wire.specs.declared.error.FrameError.TheVariants as errors

abbrev pub number_of : FrameError → ℕ
number_of (errors.Fault fault.TooLong) = 1
number_of (errors.Fault fault.BadKind) = 2
number_of (errors.Fault fault.BadTag) = 3
number_of (errors.Fault fault.NotRising) = 4
number_of (errors.Fault fault.NotUtf8) = 5
number_of (errors.Fault fault.TrailingBytes) = 6
number_of errors.StreamFailed = 7
number_of errors.Memory = 8
number_of (errors.Fault fault.CutShort) = 9

abbrev pub name_of : FrameError → List ℕ
name_of (errors.Fault fault.TooLong) = codes "TooLong"
name_of (errors.Fault fault.BadKind) = codes "BadKind"
name_of (errors.Fault fault.BadTag) = codes "BadTag"
name_of (errors.Fault fault.NotRising) = codes "NotRising"
name_of (errors.Fault fault.NotUtf8) = codes "NotUtf8"
name_of (errors.Fault fault.TrailingBytes) = codes "TrailingBytes"
name_of errors.StreamFailed = codes "StreamFailed"
name_of errors.Memory = codes "Memory"
name_of (errors.Fault fault.CutShort) = codes "CutShort"
