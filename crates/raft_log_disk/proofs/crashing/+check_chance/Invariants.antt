use Rattle.std.proofs.Common.{length}
use Rattle.raft_log_disk.proofs.crashing.+check_chance.Given as goal

abbrev pub decreases-check_chance : goal.decreases-check_chance
decreases-check_chance l = length l.files.now
