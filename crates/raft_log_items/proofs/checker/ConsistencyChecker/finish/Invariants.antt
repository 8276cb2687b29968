use Rattle.std.proofs.Common.{◌≡◌, ◌++◌}
use Rattle.raft_log_items.proofs.HoleLemmas.{holes_of}
use Rattle.raft_log_items.proofs.checker.ConsistencyChecker.finish.Given as goal

abbrev pub invariant-loop-group : goal.invariant-loop-group
invariant-loop-group l = l.holes.items ++ holes_of l.group-iterator ≡ holes_of l.fn.self.spans.entries
