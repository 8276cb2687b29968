use Rattle.std.proofs.Common.{◌≡◌, take}
use Rattle.raft_log_disk.specs.Disk.{listed}
use Rattle.raft_log_disk.specs.Memory.{texts_of, names_of}
use Rattle.raft_log_disk.proofs.memory_calls.MemoryFileSystemFileSystem.list.Given as goal

abbrev pub invariant-loop-file : goal.invariant-loop-file
invariant-loop-file l = texts_of l.names.items ≡ listed (names_of (take l.file-index l.self.files.items)) l.directory
