-- Whether the rewrite queue is to be written anew.
use Rattle.std.specs.Prelude.{ℕ}
use Rattle.raft_log_purge.specs.declared.due.QueueFiles.{QueueFiles}
use Rattle.raft_log_purge.specs.declared.due.Rewritten.{Rewritten}
use Rattle.raft_log_purge.specs.Due.{HasGarbage, IsLarge}

-- It has old files and more bytes than this, and more per cent than these of what was written to it count no more.
pub record IsDue (files : QueueFiles) (counts : Rewritten) (most percent : ℕ) : Type 0 where
  pub large : IsLarge files most
  pub garbage : HasGarbage counts percent
