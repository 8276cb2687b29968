-- What contracts see of an engine.
use Rattle.std.specs.Prelude.{ℕ, Bool}
use Rattle.raft_log_pipes.specs.declared.pipes.DualPipes.{DualPipes}
use Rattle.raft_log_memtables.specs.declared.memtables.MemTables.{MemTables}
use Rattle.raft_log_traces.specs.declared.group_traces.GroupTraces.{GroupTraces}

pub record Parts (F : Type 0) : Type 0 where
  pub files : F
  pub pipes : DualPipes
  pub tables : MemTables
  -- a write failed, and nothing more is answered
  pub is_stopped : Bool
  -- a write wasn't synced
  pub wrote_unsynced : Bool
  -- so many blocks were read from files for entries
  pub block_reads : ℕ
  -- what is kept of each group for cleaning
  pub traces : GroupTraces
  -- an opening found a batch of the append queue that belongs to an atomic group
  pub has_marked : Bool
  -- it found records of an atomic group in the rewrite queue that stand apart
  pub is_parted : Bool
  -- the append queue is due once its files may hold more bytes
  pub purge_threshold : ℕ
