-- Why entries aren't read.
use Rattle.std.specs.Prelude.{◌≡◌, ◌⊎◌, Some}
use Rattle.raft_log_records.specs.declared.file_id.FileBlockHandle.{FileBlockHandle}
use Rattle.raft_log_records.specs.declared.item.EntryIndex.{EntryIndex}
use Rattle.raft_log_disk.specs.Disk.{Disk, HasOneOf, IsIn}
use Rattle.raft_log_disk.specs.Cause.{Meter}
use Rattle.raft_log_files.specs.declared.error.Error.{Error}
use Rattle.raft_log_files.specs.declared.error.DiskRefusal.TheVariants.{Refused}
use Rattle.raft_log_files.specs.declared.error.Error.TheVariants.{Io, Memory}
use Rattle.raft_log_pipe.specs.declared.file.File.{File}
use Rattle.raft_log_pipe.specs.Blocks.{files_of}
use Rattle.raft_log_pipes.specs.declared.pipes.DualPipes.{DualPipes}
use Rattle.raft_log_pipes.specs.Pipes.{pipe_of}

-- the file system refuses reads of the file that a block stands in
abbrev pub IsBlockUnread : Disk → DualPipes → Meter → FileBlockHandle → Error → Type 0
IsBlockUnread d p meter h error =
    (error ≡ Io Refused) × ((f : File) × IsIn f (files_of (pipe_of p h.id.queue)) × (f.seq ≡ h.id.seq) × HasOneOf d f.handle.0 meter.unreadable)

-- memory is missing, or the block is so
abbrev pub IsUnread : Disk → DualPipes → Meter → FileBlockHandle → Error → Type 0
IsUnread d p meter h error = (error ≡ Memory) ⊎ IsBlockUnread d p meter h error

-- memory is missing, or the block of the entry is so
abbrev pub IsEntryUnread : Disk → DualPipes → Meter → EntryIndex → Error → Type 0
IsEntryUnread d p meter e error = (error ≡ Memory) ⊎ ((h : FileBlockHandle) × (e.entries ≡ Some h) × IsBlockUnread d p meter h error)
