use Rattle.std.proofs.Common.{◌-◌}
use Rattle.raft_log_tool.proofs.copying.write_copy.Given as goal

abbrev pub decreases-pieces : goal.decreases-pieces
decreases-pieces l = l.size - l.at
