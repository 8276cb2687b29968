-- Why a reader of a file refuses.
use Rattle.std.specs.Prelude.{◌≡◌, ◌⊎◌, ◌<◌, ℕ, length, Result, Ok, Err}
use Rattle.raft_log_records.specs.declared.error.RecordFault.{RecordFault}
use Rattle.raft_log_disk.specs.Disk.{Disk, IsNoFile, HasOneOf}
use Rattle.raft_log_disk.specs.Cause.{Meter}
use Rattle.raft_log_disk.specs.declared.format.LogFileFormat.{LogFileFormat}
use Rattle.raft_log_disk.specs.declared.format.HeaderFault.TheVariants.{CutShort}
use Rattle.raft_log_disk.specs.Format.{header_at, header_len}
use Rattle.raft_log_files.specs.declared.error.Error.{Error}
use Rattle.raft_log_files.specs.declared.error.Error.TheVariants.{Io, Corruption, Memory, Other}
use Rattle.raft_log_files.specs.declared.error.DiskRefusal.TheVariants.{Refused}
use Rattle.raft_log_files.specs.declared.error.OtherFault.TheVariants.{FileGone}
use Rattle.raft_log_files.specs.declared.error.CorruptionFault.TheVariants.{Header, Record}

-- memory is missing, reads of the file are refused, or no file has the number
abbrev pub IsReadFault : Disk → Meter → ℕ → Error → Type 0
IsReadFault d meter fd e = (e ≡ Memory) ⊎ (((e ≡ Io Refused) × HasOneOf d fd meter.unreadable) ⊎ ((e ≡ Other FileGone) × IsNoFile d fd))

-- what a file's header says, or its first fault
abbrev pub Parses : Disk → Meter → ℕ → Result LogFileFormat Error → Type 0
Parses d meter fd (Ok format) = header_at (d.file fd).bytes ≡ Ok format
Parses d meter fd (Err (Corruption (Header f))) = header_at (d.file fd).bytes ≡ Err f
Parses d meter fd (Err e) = IsReadFault d meter fd e

-- or the file is shorter than the header of this format
abbrev pub IsOpenFault : Disk → Meter → ℕ → LogFileFormat → Error → Type 0
IsOpenFault d meter fd format e = ((e ≡ Corruption (Header CutShort)) × (length (d.file fd).bytes < header_len format.version)) ⊎ IsReadFault d meter fd e

-- or bytes are no record
abbrev pub IsNextFault : Disk → Meter → ℕ → Error → Type 0
IsNextFault d meter fd e = ((f : RecordFault) × (e ≡ Corruption (Record f))) ⊎ IsReadFault d meter fd e
