use Rattle.std.proofs.Common.{◌≡◌, ◌-◌, ◌≤◌}
use Rattle.raft_log_records.specs.Item.{items_of}
use Rattle.raft_log_records.specs.Reading.{items_at}
use Rattle.raft_log_records.proofs.Loops.{with_front}
use Rattle.raft_log_records.proofs.reading.items_behind.Given as goal

abbrev pub invariant-loop : goal.invariant-loop
invariant-loop l = record {
  within : l.at ≤ l.limit;
  read : with_front (items_of l.items.items) (items_at (l.count - l.counter) l.limit l.at l.rest) ≡ items_at l.count l.limit 0 l.bytes;
}
