use Rattle.std.proofs.Common.{length}
use Rattle.raft_log_disk.proofs.crashing.+bytes_beside.Given as goal

abbrev pub decreases-bytes_beside : goal.decreases-bytes_beside
decreases-bytes_beside l = length l.all.now
