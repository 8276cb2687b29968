-- Which queues of a log are due.
use Rattle.std.specs.Bool.{OnFalse, OnTrue}
use Rattle.std.specs.Prelude.{◌≡◌, ◌⊎◌, ◌↔◌, true, false, IsTrue}
use Rattle.raft_log_pipes.specs.declared.pipes.DualPipes.{DualPipes}
use Rattle.raft_log_purge.specs.declared.due.RewriteCounts.{RewriteCounts}
use Rattle.raft_log_purge.specs.declared.due.Rewritten.{Rewritten}
use Rattle.raft_log_purge.specs.Due.{IsLarge}
use Rattle.raft_log_traced.specs.declared.traced.TracedTables.{TracedTables}
use Rattle.raft_log_cleaner.specs.declared.manager.PurgeManager.{PurgeManager}
use Rattle.raft_log_cleaner.specs.Live.{AreLive}
use Rattle.raft_log_cleaner.specs.Told.{queue_of}
use Rattle.raft_log_rewriter.specs.Due.{IsDue}
use Rattle.raft_log_cleaning.specs.declared.due.Due.{Due}

-- what was written to the rewrite queue since it was last written anew, and what of it still counts
abbrev pub counts_of : TracedTables → RewriteCounts → Rewritten
counts_of log live = record { written = log.written; live = live }

-- so it is to be written anew
abbrev pub IsDueBy : PurgeManager → DualPipes → TracedTables → RewriteCounts → Type 0
IsDueBy m p log live = IsDue (queue_of p.rewrite) (counts_of log live) m.rewrite_threshold m.garbage_percent

-- The rewrite queue is due, by what counts of it. The records of each atomic group in it stand together
pub record IsRewriteDue (m : PurgeManager) (p : DualPipes) (log : TracedTables) : Type 0 where
  pub together : log.is_parted ≡ false
  pub live : RewriteCounts
  pub are : AreLive log live
  pub due : IsDueBy m p log live

-- it isn't, by what counts of it
pub record IsRewriteKept (m : PurgeManager) (p : DualPipes) (log : TracedTables) : Type 0 where
  pub live : RewriteCounts
  pub are : AreLive log live
  pub not_due : IsDueBy m p log live → ⊥

-- or an opening found records of an atomic group apart, or the queue is small
abbrev pub IsRewriteSpared : PurgeManager → DualPipes → TracedTables → Type 0
IsRewriteSpared m p log = (log.is_parted ≡ true) ⊎ ((IsLarge (queue_of p.rewrite) m.rewrite_threshold → ⊥) ⊎ IsRewriteKept m p log)

-- each queue is told just where it is due
pub record AreDue (m : PurgeManager) (p : DualPipes) (log : TracedTables) (due : Due) : Type 0 where
  pub rewrites : OnTrue due.rewrites (IsRewriteDue m p log)
  pub not_rewrites : OnFalse due.rewrites (IsRewriteSpared m p log)
  pub appends : IsTrue due.appends ↔ IsLarge (queue_of p.append) m.purge_threshold

-- An opening found a batch of the append queue that belongs to an atomic group, or neither queue is due
abbrev pub NoneIsDue : PurgeManager → DualPipes → TracedTables → Type 0
NoneIsDue m p log = (log.has_marked ≡ true) ⊎ (IsRewriteSpared m p log × (IsLarge (queue_of p.append) m.purge_threshold → ⊥))
