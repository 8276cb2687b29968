-- What has been replayed so far.
use Rattle.std.specs.Prelude.{ℕ, List, Option, Some, None}
use Rattle.raft_log_records.specs.declared.item.EntryIndex.{EntryIndex}
use Rattle.raft_log_records.specs.Item.{Item}
use Rattle.raft_log_memtables.specs.declared.replay.PendingAtomicGroup.{PendingAtomicGroup}
use Rattle.raft_log_memtables.specs.declared.replay.MemTableRecoverContext.{MemTableRecoverContext}
use Rattle.raft_log_memtables.specs.Content.{Content}
use Rattle.raft_log_memtables.specs.MemTables.{content_in, reach_in}
use Rattle.raft_log_memtables.specs.Records.{all_items}
use Rattle.raft_log_memtables.specs.Replay.{Replay}

-- the atomic group that has begun, and its items
abbrev pub begun_by : Option PendingAtomicGroup → Option (ℕ × List (Item EntryIndex))
begun_by None = None
begun_by (Some group) = Some (group.id, all_items group.records.items)

-- the content so far
unfoldable pub replay_in : MemTableRecoverContext → Replay EntryIndex (Content EntryIndex)
replay_in context = record { state = content_in context.memtables; begun = begun_by context.pending }

-- how far the entries of each group ever reached
unfoldable pub reach_replay_in : MemTableRecoverContext → Replay EntryIndex (ℕ → Option ℕ)
reach_replay_in context = record { state = reach_in context.memtables; begun = begun_by context.pending }
