use Rattle.std.proofs.Common.{◌≡◌, ◌++◌}
use Rattle.raft_log_tools.proofs.telling.all_told.Given as goal

abbrev pub invariant-loop-group : goal.invariant-loop-group
invariant-loop-group l = l.holes.items ++ l.group-iterator ≡ l.fn.told.entries
