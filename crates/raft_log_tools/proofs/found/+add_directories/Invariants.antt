use Rattle.std.proofs.Common.{length}
use Rattle.raft_log_tools.proofs.found.+add_directories.Given as goal

abbrev pub decreases-add_directories : goal.decreases-add_directories
decreases-add_directories g l = length l.directories.now
