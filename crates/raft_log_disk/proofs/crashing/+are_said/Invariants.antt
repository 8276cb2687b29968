use Rattle.std.proofs.Common.{length}
use Rattle.raft_log_disk.proofs.crashing.+are_said.Given as goal

abbrev pub decreases-are_said : goal.decreases-are_said
decreases-are_said l = length l.files.now
