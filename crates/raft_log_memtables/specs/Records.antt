-- Records with the blocks in which their entries lie.
use Rattle.std.specs.Prelude.{List, map}
use Rattle.std.specs.List.{flat_map}
use Rattle.raft_log_records.specs.declared.item.EntryIndex.{EntryIndex}
use Rattle.raft_log_records.specs.Item.{Item}
use Rattle.raft_log_memtables.specs.declared.replay.PlacedBatch.{PlacedBatch}
use Rattle.raft_log_memtables.specs.MemTable.{batch_items}

-- the items of a record, with the places of their entries
abbrev pub record_items : PlacedBatch → List (Item EntryIndex)
record_items r = batch_items r.handle r.batch

abbrev pub items_in_records : List PlacedBatch → List (List (Item EntryIndex))
items_in_records rs = map record_items rs

-- all of them, one after the other
abbrev pub all_items : List PlacedBatch → List (Item EntryIndex)
all_items rs = flat_map record_items rs
