use Rattle.std.proofs.Common.{◌≡◌, ◌-◌, take}
use Rattle.raft_log_disk.specs.Memory.{used_of}
use Rattle.raft_log_disk.proofs.space.left_of.Given as goal

abbrev pub invariant-loop-file : goal.invariant-loop-file
invariant-loop-file l = l.left ≡ l.bytes - used_of (take l.file-index l.files) l.directory
