use Rattle.std.proofs.Common.{◌-◌}
use Rattle.raft_log_host.proofs.host.fill_up.Given as goal

abbrev pub decreases-loop-at : goal.decreases-loop-at
decreases-loop-at l = l.len - l.at
