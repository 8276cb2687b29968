-- Refusals of the log engine.
use Rattle.std.specs.Prelude.{ℕ}
use Rattle.raft_log_disk.specs.declared.fault.IoFault.{IoFault}
use Rattle.raft_log_disk.specs.declared.fault.IoFault.TheVariants as fault
use Rattle.raft_log_files.specs.declared.error.DiskRefusal.TheVariants as refusal
use Rattle.raft_log_files.specs.declared.error.OtherFault.TheVariants.{FileGone}
use Rattle.raft_log_files.specs.declared.error.Error.{Error}
use Rattle.raft_log_files.specs.declared.error.Error.TheVariants.{Io, Corruption, InvalidArgument, TryAgain, Memory, Other, EntryCompacted, EntryNotFound}

-- the number of each kind of refusal
abbrev pub number_of : Error → ℕ
number_of (Io f) = 1
number_of (Corruption f) = 2
number_of (InvalidArgument f) = 3
number_of TryAgain = 4
number_of Memory = 5
number_of (Other f) = 6
number_of EntryCompacted = 7
number_of EntryNotFound = 8

-- a fault of a call on files: `Io` where the file system counts it or reads of the name are refused
abbrev pub io_error : IoFault → Error
io_error fault.Memory = Memory
io_error fault.Refused = Io refusal.Refused
io_error fault.NoSpace = Io refusal.NoSpace
io_error fault.NotFound = Other FileGone

-- and of the second append of a call
abbrev pub second_append_error : IoFault → Error
second_append_error fault.NoSpace = TryAgain
second_append_error f = io_error f
