-- The bytes of entries as they stand on the disk, in their blocks.
use Rattle.std.specs.Prelude.{ℕ, ◌-◌, List, [], ◌∷◌, length, take, drop, Option, Some, None, ◌==◌, if◌then◌else◌}
use Rattle.raft_log_records.specs.declared.file_id.FileBlockHandle.{FileBlockHandle}
use Rattle.raft_log_records.specs.declared.item.EntryIndex.{EntryIndex}
use Rattle.raft_log_records.specs.Item.{entry_bytes}
use Rattle.raft_log_disk.specs.Disk.{Disk}
use Rattle.raft_log_pipe.specs.declared.file.File.{File}
use Rattle.raft_log_pipe.specs.Blocks.{files_of}
use Rattle.raft_log_pipes.specs.declared.pipes.DualPipes.{DualPipes}
use Rattle.raft_log_pipes.specs.Pipes.{pipe_of}

-- the file of a number
abbrev pub file_in : ℕ → List File → Option File
file_in seq [] = None
file_in seq (f ∷ fs) = if f.seq == seq then Some f else file_in seq fs

-- bytes without the checksum at their end
abbrev pub unsealed_bytes : List ℕ → List ℕ
unsealed_bytes bytes = take (length bytes - 4) bytes

-- a block of entries in its file, none where there is no file
abbrev pub block_in : Disk → FileBlockHandle → Option File → List ℕ
block_in d h None = []
block_in d h (Some f) = unsealed_bytes (take h.len (drop h.offset (d.file f.handle.0).bytes))

abbrev pub bytes_placed : Disk → DualPipes → EntryIndex → Option FileBlockHandle → List ℕ
bytes_placed d p e None = []
bytes_placed d p e (Some h) = entry_bytes (block_in d h (file_in h.id.seq (files_of (pipe_of p h.id.queue)))) e

-- the bytes of an entry on the disk, in the queue that its block says
abbrev pub bytes_on : Disk → DualPipes → EntryIndex → List ℕ
bytes_on d p e = bytes_placed d p e e.entries
