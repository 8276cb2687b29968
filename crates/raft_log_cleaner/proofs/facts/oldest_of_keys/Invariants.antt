-- The oldest file of the keys so far.
use Rattle.std.proofs.Common.{map, take}
use Rattle.raft_log_traces.specs.Traces.{trace_in}
use Rattle.raft_log_cleaner.proofs.Oldest.{IsOldestOfNames}
use Rattle.raft_log_cleaner.proofs.facts.oldest_of_keys.Given as goal

abbrev pub invariant-loop-name : goal.invariant-loop-name
invariant-loop-name l = IsOldestOfNames (trace_in l.trace) l.mark (map (λ n. n.now) (take l.name-index l.name-items)) l.oldest
