-- The names of the pairs so far are copied.
use Rattle.std.proofs.Common.{◌≡◌, ℕ, List, true, map, take}
use Rattle.std.specs.Prelude.{None}
use Rattle.std.specs.Map.Iter.{deref_pair}
use Rattle.raft_log_records.specs.Batch.{payloads}
use Rattle.raft_log_covers.specs.Marks.{is_in}
use Rattle.raft_log_purge.specs.Anew.{names_of}
use Rattle.raft_log_traces.specs.GroupTraces.{traces_in}
use Rattle.raft_log_rewriter.proofs.names.names_among.Given as goal

abbrev pub invariant-loop-pair : goal.invariant-loop-pair
invariant-loop-pair l = (k : List ℕ) → is_in k (names_of (map deref_pair (take l.pair-index l.found))) ≡ true → (traces_in l.traces l.group).key_file k ≡ None → is_in k (payloads l.names.items) ≡ true
