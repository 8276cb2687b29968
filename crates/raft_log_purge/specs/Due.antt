-- Whether a queue is to be cleaned.
use Rattle.std.specs.Prelude.{◌⊎◌, ◌<◌, ◌+◌, ◌-◌, ◌*◌, ◌^◌, ℕ, min}
use Rattle.raft_log_purge.specs.declared.due.QueueFiles.{QueueFiles}
use Rattle.raft_log_purge.specs.declared.due.RewriteCounts.{RewriteCounts}
use Rattle.raft_log_purge.specs.declared.due.Rewritten.{Rewritten}

-- It has more files than the one that is written, and they may hold more bytes than this.
pub record IsLarge (files : QueueFiles) (most : ℕ) : Type 0 where
  pub has_old : files.first < files.active
  pub past : most < files.size

-- Of so many more per cent than these count no more.
abbrev pub IsPast : ℕ → ℕ → ℕ → Type 0
IsPast written live percent = written * percent < (written - live) * 100

-- Entries, keys and marks together. A count stays at 2^64 - 1.
abbrev pub all_of : RewriteCounts → ℕ
all_of counts = min (counts.sets + counts.marks) (2 ^ 64 - 1)

-- So it is of the entries and keys that were written to the rewrite queue, or of these with the marks.
abbrev pub HasGarbage : Rewritten → ℕ → Type 0
HasGarbage counts percent = IsPast counts.written.sets counts.live.sets percent ⊎ IsPast (all_of counts.written) (all_of counts.live) percent
