-- Whether the rewrite queue is due, by what counts of it.
use Rattle.std.proofs.Common.{◌≡◌, inr, ℕ, Bool, true, false, refl, sym, subst}
use Rattle.std.specs.Bool.{OnFalse, OnTrue}
use Rattle.std.specs.Prelude.{◌↔◌, IsTrue}
use Rattle.raft_log_pipes.specs.declared.pipes.DualPipes.{DualPipes}
use Rattle.raft_log_pipe.specs.declared.pipe.SinglePipe.{SinglePipe}
use Rattle.raft_log_purge.specs.declared.due.QueueFiles.{QueueFiles}
use Rattle.raft_log_purge.specs.declared.due.RewriteCounts.{RewriteCounts}
use Rattle.raft_log_traced.specs.declared.traced.TracedTables.{TracedTables}
use Rattle.raft_log_cleaner.specs.declared.manager.PurgeManager.{PurgeManager}
use Rattle.raft_log_cleaner.specs.Live.{AreLive}
use Rattle.raft_log_cleaner.specs.Told.{queue_of}
use Rattle.raft_log_rewriter.specs.Due.{IsDue}
use Rattle.raft_log_cleaning.specs.Due.{IsDueBy, IsRewriteDue, IsRewriteSpared, counts_of}

pub files_are : (files : QueueFiles) (p : SinglePipe) → files.first ≡ (queue_of p).first → files.active ≡ (queue_of p).active → files.size ≡ (queue_of p).size → files ≡ queue_of p
files_are files p first active size = λ i. record { first = first i; active = active i; size = size i }

module _ (m : PurgeManager) (p : DualPipes) (log : TracedTables) where
  -- by what counts
  due_by_case : (live : RewriteCounts) (told : Bool) → log.is_parted ≡ false → AreLive log live → (IsTrue told → IsDueBy m p log live) → (IsDueBy m p log live → IsTrue told)
      → OnTrue told (IsRewriteDue m p log) × OnFalse told (IsRewriteSpared m p log)
  due_by_case live true together are from to = (record { together = together; live = live; are = are; due = from refl }, tt)
  due_by_case live false together are from to =
      (tt, inr (inr (record { live = live; are = are; not_due = λ due. let never : false ≡ true = to due in absurd cc })))

  pub due_told : (live : RewriteCounts) (files : QueueFiles) (threshold percent : ℕ) (told : Bool) → files ≡ queue_of p.rewrite → threshold ≡ m.rewrite_threshold → percent ≡ m.garbage_percent → log.is_parted ≡ false → AreLive log live
      → IsTrue told ↔ IsDue files (counts_of log live) threshold percent → OnTrue told (IsRewriteDue m p log) × OnFalse told (IsRewriteSpared m p log)
  due_told live files threshold percent told is_files is_threshold is_percent together are tells =
      let counts = counts_of log live in
      due_by_case live told together are
      (λ h.
      subst (λ (f : QueueFiles). IsDue f counts m.rewrite_threshold m.garbage_percent) is_files
      (subst (λ (n : ℕ). IsDue files counts n m.garbage_percent) is_threshold (subst (λ (n : ℕ). IsDue files counts threshold n) is_percent (tells.0 h))))
      (λ h.
      tells.1 (subst (λ (n : ℕ). IsDue files counts threshold n) (sym is_percent)
      (subst (λ (n : ℕ). IsDue files counts n m.garbage_percent) (sym is_threshold) (subst (λ (f : QueueFiles). IsDue f counts m.rewrite_threshold m.garbage_percent) (sym is_files) h))))
