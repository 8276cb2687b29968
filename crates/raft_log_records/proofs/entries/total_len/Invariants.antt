use Rattle.std.proofs.Common.{◌≡◌, ◌≤◌, length, take}
use Rattle.raft_log_records.specs.Batch.{payloads, joined}
use Rattle.raft_log_records.proofs.entries.total_len.Given as goal

abbrev pub invariant-loop-entry : goal.invariant-loop-entry
invariant-loop-entry l = record { sum : l.total ≡ length (joined (payloads (take l.entry-index l.entries))); short : l.total ≤ 33554432 }
