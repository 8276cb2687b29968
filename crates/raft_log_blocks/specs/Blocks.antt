-- Blocks of entries that are read.
use Rattle.std.specs.Prelude.{◌≡◌, ℕ, List, take, drop, Some, None}
use Rattle.raft_log_records.specs.declared.file_id.FileBlockHandle.{FileBlockHandle}
use Rattle.raft_log_records.specs.declared.item.EntryIndex.{EntryIndex}
use Rattle.raft_log_records.specs.Spelling.{sealed}
use Rattle.raft_log_disk.specs.Disk.{Disk, IsIn, IsNoFile}
use Rattle.raft_log_pipe.specs.declared.file.File.{File}
use Rattle.raft_log_pipe.specs.Blocks.{files_of}
use Rattle.raft_log_pipes.specs.declared.pipes.DualPipes.{DualPipes}
use Rattle.raft_log_pipes.specs.Pipes.{pipe_of}
use Rattle.raft_log_blocks.specs.Placed.{block_in, file_in}

-- a block without its checksum, as its file has it
abbrev pub block_on : Disk → DualPipes → FileBlockHandle → List ℕ
block_on d p handle = block_in d handle (file_in handle.id.seq (files_of (pipe_of p handle.id.queue)))

-- the entries of a block are what its file has there
abbrev pub IsReadAs : Disk → DualPipes → FileBlockHandle → List ℕ → Type 0
IsReadAs d p handle entries = entries ≡ block_on d p handle

-- A block stands in a file of its queue, entries with their checksum, and the file is there
pub record StandsWhole (d : Disk) (p : DualPipes) (h : FileBlockHandle) : Type 0 where
  pub file : File
  pub among : IsIn file (files_of (pipe_of p h.id.queue))
  pub number : file.seq ≡ h.id.seq
  pub there : IsNoFile d file.handle.0 → ⊥
  pub entries : List ℕ
  pub stands : take h.len (drop h.offset (d.file file.handle.0).bytes) ≡ sealed None entries

-- an entry has a block, which stands so
abbrev pub HasBlock : Disk → DualPipes → EntryIndex → Type 0
HasBlock d p e = (h : FileBlockHandle) × (e.entries ≡ Some h) × StandsWhole d p h
