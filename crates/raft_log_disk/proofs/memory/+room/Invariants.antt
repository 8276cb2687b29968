use Rattle.std.proofs.Common.{length}
use Rattle.raft_log_disk.proofs.memory.+room.Given as goal

abbrev pub decreases-room : goal.decreases-room
decreases-room l = length l.spaces.now
