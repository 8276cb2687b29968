use Rattle.std.proofs.Common.{◌≡◌, ◌++◌}
use Rattle.raft_log_traces.proofs.NameLemmas.{shown, bytes_in}
use Rattle.raft_log_traces.proofs.before.names_of.Given as goal

abbrev pub invariant-loop-name : goal.invariant-loop-name
invariant-loop-name l = shown l.names.items ++ bytes_in l.name-iterator ≡ bytes_in l.initial.name-iterator
