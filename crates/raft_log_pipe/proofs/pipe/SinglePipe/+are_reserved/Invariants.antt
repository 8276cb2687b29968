use Rattle.std.proofs.Common.{length}
use Rattle.raft_log_pipe.proofs.pipe.SinglePipe.+are_reserved.Given as goal

abbrev pub decreases-are_reserved : goal.decreases-are_reserved
decreases-are_reserved g l = length l.found.now
