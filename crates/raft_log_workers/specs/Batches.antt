-- Batches that are kept as they were read.
use Rattle.std.specs.Prelude.{◌≡◌, List, map}
use Rattle.raft_log_records.specs.Item.{items_of}
use Rattle.raft_log_recovery.specs.Replay.{Placed}
use Rattle.raft_log_workers.specs.declared.batches.ReplayedBatch.{ReplayedBatch}
use Rattle.raft_log_workers.specs.declared.batches.ReplayedBatches.{ReplayedBatches}

abbrev pub placed_of : ReplayedBatch → Placed
placed_of b = record { handle = b.handle; items = items_of b.batch.items.items }

-- it keeps just these batches
abbrev pub HasBatches : ReplayedBatches → List Placed → Type 0
HasBatches machine placed = map placed_of machine.batches.items ≡ placed
