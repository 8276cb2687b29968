-- Numbers of refusals.
use Rattle.std.specs.Prelude.{◌≡◌, ℕ, Bool, false}
use Rattle.raft_log_records.specs.declared.error.RecordError.{RecordError}
use Rattle.raft_log_records.specs.declared.error.RecordError.TheVariants.{Memory, TooLong, Corruption}
use Rattle.raft_log_records.specs.declared.error.WriteError.{WriteError}
use Rattle.raft_log_records.specs.declared.error.WriteError.TheVariants as write_error

-- the number by which a refusal is known
abbrev pub number_of : RecordError → ℕ
number_of Memory = 1
number_of TooLong = 2
number_of (Corruption fault) = 3

-- why a message isn't written: want of memory, or it is past a limit of its type
abbrev pub IsWriteError : Bool → WriteError → Type 0
IsWriteError fits write_error.Memory = Unit {0}
IsWriteError fits write_error.TooLong = fits ≡ false

-- a batch is refused for the same reason
abbrev pub record_error : WriteError → RecordError
record_error write_error.Memory = Memory
record_error write_error.TooLong = TooLong
