use Rattle.std.proofs.Common.{length}
use Rattle.raft_log_disk.proofs.image.+is_outside.Given as goal

abbrev pub decreases-is_outside : goal.decreases-is_outside
decreases-is_outside l = length l.ranges.now
