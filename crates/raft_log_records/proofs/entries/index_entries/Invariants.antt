use Rattle.std.proofs.Common.{◌≡◌, ◌++◌, ◌+◌, ◌<◌, ◌^◌, length, drop}
use Rattle.raft_log_records.specs.Batch.{payloads, joined, numbered}
use Rattle.raft_log_records.specs.Places.{runs}
use Rattle.raft_log_records.proofs.entries.index_entries.Given as goal

abbrev pub invariant-loop-entry : goal.invariant-loop-entry
invariant-loop-entry l = record {
  rest : l.indexes.items ++ runs l.at (numbered l.index (payloads (drop l.entry-index l.entries))) ≡ runs l.fn.at (numbered l.first (payloads l.entries));
  index : l.index ≡ l.first + l.entry-index;
  room : l.at + length (joined (payloads (drop l.entry-index l.entries))) < 2 ^ 32;
}
