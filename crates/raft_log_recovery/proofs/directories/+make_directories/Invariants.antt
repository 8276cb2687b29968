use Rattle.std.proofs.Common.{length}
use Rattle.raft_log_recovery.proofs.directories.+make_directories.Given as goal

abbrev pub decreases-make_directories : goal.decreases-make_directories
decreases-make_directories g l = length l.paths.now
