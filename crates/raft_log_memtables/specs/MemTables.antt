-- What all memtables mean.
use Rattle.std.specs.Prelude.{ℕ, Option}
use Rattle.raft_log_records.specs.declared.item.EntryIndex.{EntryIndex}
use Rattle.raft_log_memtables.specs.declared.memtables.MemTables.{MemTables}
use Rattle.raft_log_memtables.specs.Content.{Content}
use Rattle.raft_log_memtables.specs.Tables.{table_at, reach_at}

-- the content of the log engine
unfoldable pub content_in : MemTables → Content EntryIndex
content_in tables = table_at tables.tables

-- how far the entries of each group ever reached
unfoldable pub reach_in : MemTables → ℕ → Option ℕ
reach_in tables = reach_at tables.tables
