use Rattle.std.proofs.Common.{length}
use Rattle.raft_log_disk.proofs.crashing.+check_images.Given as goal

abbrev pub decreases-check_images : goal.decreases-check_images
decreases-check_images l = length l.files.now
