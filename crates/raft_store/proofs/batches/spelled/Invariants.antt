-- The entries so far are spelled, and fit.
use Rattle.std.proofs.Common.{◌≡◌, map, take}
use Rattle.std.specs.List.{AllByRecursion}
use Rattle.raft_log_records.specs.Batch.{payloads}
use Rattle.raft_wire.specs.Entries.{FitsEntry, spelled_entry}
use Rattle.raft_store.proofs.batches.spelled.Given as goal

abbrev pub invariant-loop-entry : goal.invariant-loop-entry
invariant-loop-entry l = record {
  bytes : payloads l.all.items ≡ map spelled_entry (take l.entry-index l.entries);
  fits : AllByRecursion FitsEntry (take l.entry-index l.entries);
}
