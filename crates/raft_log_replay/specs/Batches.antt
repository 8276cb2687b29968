-- Batches that were replayed, and the tables of them.
use Rattle.std.specs.Prelude.{◌≡◌, ℕ, List, map, Option, None}
use Rattle.raft_log_records.specs.declared.item.EntryIndex.{EntryIndex}
use Rattle.raft_log_records.specs.Item.{Item}
use Rattle.raft_log_memtables.specs.Content.{Content, after_batch, nothing, reach_after_batch}
use Rattle.raft_log_memtables.specs.MemTable.{items_in}
use Rattle.raft_log_memtables.specs.Recovery.{reach_replay_in, replay_in}
use Rattle.raft_log_memtables.specs.Replay.{after_records}
use Rattle.raft_log_recovery.specs.Replay.{Placed}
use Rattle.raft_log_replay.specs.declared.tables.ReplayedTables.{ReplayedTables}

-- the items of batches, with the places of their entries
abbrev pub records_in : List Placed → List (List (Item EntryIndex))
records_in placed = map (λ p. items_in p.handle p.items) placed

-- what batches make of a content. Those of an atomic group count together, or not at all without the last of them
abbrev pub content_over : Content EntryIndex → List Placed → Content EntryIndex
content_over content placed = (after_records after_batch (records_in placed) (record { state = content; begun = None })).state

-- and of how far the entries of each group ever reached
abbrev pub reach_over : (ℕ → Option ℕ) → List Placed → ℕ → Option ℕ
reach_over reach placed = (after_records reach_after_batch (records_in placed) (record { state = reach; begun = None })).state

-- the tables have replayed just these batches, from nothing
pub record HasReplayed (machine : ReplayedTables) (placed : List Placed) : Type 0 where
  pub content : replay_in machine.context ≡ after_records after_batch (records_in placed) (record { state = nothing; begun = None })
  pub reach : reach_replay_in machine.context ≡ after_records reach_after_batch (records_in placed) (record { state = λ group. None; begun = None })
