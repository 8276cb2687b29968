-- Counts of entries and keys in the two queues of log files. A count stays at 2^64 - 1.
use Rattle.std.specs.Prelude.{ℕ, ◌+◌, ◌-◌, ◌^◌, min}
use Rattle.raft_log_records.specs.declared.file_id.LogQueue.{LogQueue}
use Rattle.raft_log_records.specs.declared.file_id.LogQueue.TheVariants.{Rewrite, Append}
use Rattle.raft_log_records.specs.declared.stats.GlobalStats.{GlobalStats}

pub record Counts : Type 0 where
  -- those of the append queue that are needed
  pub appended : ℕ
  -- those written to the rewrite queue, without the ones that a reset has taken off
  pub rewritten : ℕ
  -- those of them that are no longer needed
  pub deleted : ℕ

unfoldable pub counts_in : GlobalStats → Counts
counts_in stats = record { appended = stats.appended; rewritten = stats.rewritten; deleted = stats.deleted }

-- nothing is counted
abbrev pub no_counts : Counts
no_counts = record { appended = 0; rewritten = 0; deleted = 0 }

-- so many more, up to the greatest count
abbrev pub risen : ℕ → ℕ → ℕ
risen before count = min (before + count) (2 ^ 64 - 1)

-- a queue has gained so many
abbrev pub after_add : LogQueue → ℕ → Counts → Counts
after_add Append count c = record { appended = risen c.appended count; rewritten = c.rewritten; deleted = c.deleted }
after_add Rewrite count c = record { appended = c.appended; rewritten = risen c.rewritten count; deleted = c.deleted }

-- so many of a queue are no longer needed
abbrev pub after_delete : LogQueue → ℕ → Counts → Counts
after_delete Append count c = record { appended = c.appended - count; rewritten = c.rewritten; deleted = c.deleted }
after_delete Rewrite count c = record { appended = c.appended; rewritten = c.rewritten; deleted = risen c.deleted count }

-- those of a queue that are needed
abbrev pub live_in : LogQueue → Counts → ℕ
live_in Append c = c.appended
live_in Rewrite c = c.rewritten - c.deleted

-- what the rewrite queue no longer needs counts no more
abbrev pub without_deleted : Counts → Counts
without_deleted c = record { appended = c.appended; rewritten = c.rewritten - c.deleted; deleted = 0 }
