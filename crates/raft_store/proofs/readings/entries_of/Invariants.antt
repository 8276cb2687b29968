-- The entries so far are those that the bytes spell.
use Rattle.std.proofs.Common.{◌≡◌, List, map, take}
use Rattle.std.specs.List.{AllByRecursion}
use Rattle.raft_group_step.specs.Values.{Entry}
use Rattle.raft_log_records.specs.Batch.{payloads}
use Rattle.raft_wire.specs.Entries.{FitsEntry, spelled_entry}
use Rattle.raft_store.proofs.readings.entries_of.Given as goal

abbrev pub invariant-loop-bytes : goal.invariant-loop-bytes
invariant-loop-bytes l = record {
  found : payloads (take l.bytes-index l.all) ≡ map spelled_entry l.entries.items;
  read : (entries : List Entry) → AllByRecursion FitsEntry entries → payloads l.all ≡ map spelled_entry entries → l.entries.items ≡ take l.bytes-index entries;
}
