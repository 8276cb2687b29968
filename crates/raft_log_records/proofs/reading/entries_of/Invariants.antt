use Rattle.std.proofs.Common.{◌≡◌, ◌-◌, ◌+◌, ◌≤◌}
use Rattle.raft_log_records.specs.Reading.{entries_at}
use Rattle.raft_log_records.proofs.Loops.{with_front}
use Rattle.raft_log_records.proofs.reading.entries_of.Given as goal

abbrev pub invariant-loop-i : goal.invariant-loop-i
invariant-loop-i l = record {
  within : l.at ≤ l.limit;
  read : with_front l.entries.items (entries_at (l.count - l.i) (l.first + l.i) l.limit l.at l.rest) ≡ entries_at l.count l.first l.limit l.fn.at l.bytes;
}
