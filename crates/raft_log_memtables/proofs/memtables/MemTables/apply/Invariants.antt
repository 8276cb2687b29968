use Rattle.std.proofs.Common.{◌≡◌, length}
use Rattle.std.specs.Vec.Iter.{into_iter_items, into_iter_len}
use Rattle.raft_log_records.specs.Item.{items_of}
use Rattle.raft_log_memtables.specs.Content.{after_batch, reach_after_batch}
use Rattle.raft_log_memtables.specs.MemTable.{items_in}
use Rattle.raft_log_memtables.specs.Tables.{table_at, reach_at}
use Rattle.raft_log_memtables.proofs.memtables.MemTables.apply.Given as goal

abbrev pub invariant-loop-item : goal.invariant-loop-item
invariant-loop-item l = record {
  content : after_batch (items_in l.handle (items_of (into_iter_items l.item-iterator))) (table_at l.self.tables)
      ≡ after_batch (items_in l.handle (items_of (into_iter_items l.initial.item-iterator))) (table_at l.initial.self.tables);
  reach : reach_after_batch (items_in l.handle (items_of (into_iter_items l.item-iterator))) (reach_at l.self.tables)
      ≡ reach_after_batch (items_in l.handle (items_of (into_iter_items l.initial.item-iterator))) (reach_at l.initial.self.tables);
  count : into_iter_len l.item-iterator ≡ length (into_iter_items l.item-iterator);
}
