use Rattle.std.proofs.Common.{length}
use Rattle.raft_log_disk.proofs.crashing.+is_said.Given as goal

abbrev pub decreases-is_said : goal.decreases-is_said
decreases-is_said l = length l.all.now
