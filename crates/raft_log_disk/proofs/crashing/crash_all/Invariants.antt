use Rattle.std.proofs.Common.{take}
use Rattle.raft_log_disk.specs.Crashed.{AreCrashed}
use Rattle.raft_log_disk.proofs.crashing.crash_all.Given as goal

abbrev pub invariant-loop-file : goal.invariant-loop-file
invariant-loop-file l = AreCrashed l.choice (take l.file-index l.files) l.all.items
