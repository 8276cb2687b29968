use Rattle.std.proofs.Common.{◌≡◌, ◌++◌, map}
use Rattle.std.specs.Map.Iter.{deref_pair}
use Rattle.raft_log_memtables.specs.KeyRange.{shown}
use Rattle.raft_log_memtables.proofs.keys.pairs_between.Given as goal

abbrev pub invariant-loop-key : goal.invariant-loop-key
invariant-loop-key l = map deref_pair l.pairs.items ++ map shown l.key-iterator ≡ map shown l.initial.key-iterator
