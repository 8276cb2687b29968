use Rattle.std.proofs.Common.{length}
use Rattle.raft_log_disk.proofs.lookup.+has_directory.Given as goal

abbrev pub decreases-has_directory : goal.decreases-has_directory
decreases-has_directory l = length l.directories.now
