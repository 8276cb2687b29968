use Rattle.std.proofs.Common.{length}
use Rattle.raft_log_pipe.proofs.file.+with_room.Given as goal

abbrev pub decreases-with_room : goal.decreases-with_room
decreases-with_room g l = length l.paths.now
