use Rattle.std.proofs.Common.{length}
use Rattle.raft_log_pipe.proofs.prefilling.+number_behind.Given as goal

abbrev pub decreases-number_behind : goal.decreases-number_behind
decreases-number_behind l = length l.files.now
