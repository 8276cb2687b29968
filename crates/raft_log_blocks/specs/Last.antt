-- The block that was read last.
use Rattle.std.specs.Prelude.{◌≡◌, Some}
use Rattle.raft_log_records.specs.declared.file_id.FileBlockHandle.{FileBlockHandle}
use Rattle.raft_log_disk.specs.Disk.{Disk}
use Rattle.raft_log_pipes.specs.declared.pipes.DualPipes.{DualPipes}
use Rattle.raft_log_blocks.specs.declared.last.LastBlock.{LastBlock}
use Rattle.raft_log_blocks.specs.Blocks.{IsReadAs}

-- what is kept of a block, if one was read, is what its file has there
abbrev pub IsLastOf : Disk → DualPipes → LastBlock → Type 0
IsLastOf d p last = (handle : FileBlockHandle) → last.handle ≡ Some handle → IsReadAs d p handle last.entries.items
