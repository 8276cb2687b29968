use Rattle.std.proofs.Common.{ℕ, List}
use Rattle.raft_log_traces.specs.Before.{IsBefore}
use Rattle.raft_log_traces.specs.Traces.{key_file_in}
use Rattle.raft_log_traces.proofs.NameLemmas.{IsCollected}
use Rattle.raft_log_traces.proofs.before.keys_in_files_before.Given as goal

abbrev pub invariant-loop-key : goal.invariant-loop-key
invariant-loop-key l = (k : List ℕ) → IsBefore l.file (key_file_in l.keys k) → IsCollected l.file l.names.items l.key-iterator k
