-- A new file of the rewrite queue, into which it is written anew.
use Rattle.std.proofs.Common.{◌≡◌, inl, inr, ℕ, ◌+◌, List, [], ◌∷◌, ◌++◌, length, refl, sym, ap, subst, ◌∙◌, arith, append-nil, length-append}
use Rattle.raft_log_records.specs.declared.item.EntryIndex.{EntryIndex}
use Rattle.raft_log_disk.specs.Disk.{Disk}
use Rattle.raft_log_pipe.specs.declared.pipe.SinglePipe.{SinglePipe}
use Rattle.raft_log_pipe.specs.Pipe.{Holds, Leaves, Numbered, first_of}
use Rattle.raft_log_pipe.proofs.BlockLemmas.{more_files}
use Rattle.raft_log_pipes.specs.declared.pipes.DualPipes.{DualPipes}
use Rattle.raft_log_pipes.specs.Pipes.{ArePipes, IsAsBefore}
use Rattle.raft_log_memtables.specs.Content.{Content}
use Rattle.raft_log_traces.specs.GroupTraces.{traces_in}
use Rattle.raft_log_marks.specs.Standing.{CanBeCleaned}
use Rattle.raft_log_blocks.specs.Held.{IsTabled, LiesIn, ReadsEntries}
use Rattle.raft_log_blocks.proofs.HeldLemmas.{same_lies}
use Rattle.raft_log_traced.specs.declared.traced.TracedTables.{TracedTables}
use Rattle.raft_log_covers.specs.Queues.{FilesRise}
use Rattle.raft_log_cleaner.specs.Cleaning.{LeavesContent, filed, records_of}
use Rattle.raft_log_cleaner.proofs.Standing.{fronts_synced, pipe_leaves, reads_as}
use Rattle.raft_log_rewriter.specs.Standing.{CanRewrite, Stands}
use Rattle.raft_log_rewriter.proofs.Numbers.{AreBelow, holds_below, holds_rise}

module _ (d e : Disk) (p q : DualPipes) (log : TracedTables) (content : Content (List ℕ)) (c : CanRewrite d p log content) (other : IsAsBefore p.append d q.append e) where
  abbrev rewrites : Numbered
  rewrites = c.can.rewrites

  abbrev appends : Numbered
  appends = c.can.appends

  -- the entries lie where they lay
  begun_reads : (q.rewrite.older.items ≡ p.rewrite.older.items ++ p.rewrite.active ∷ []) → (read : EntryIndex → List ℕ) → ReadsEntries q rewrites appends read → ReadsEntries p rewrites appends read
  begun_reads files read reads x bytes (inl lies) = reads x bytes (inl (same_lies p.rewrite q.rewrite rewrites (more_files p.rewrite q.rewrite files) (q.rewrites ∙ sym p.rewrites) x bytes lies))
  begun_reads files read reads x bytes (inr lies) = reads x bytes (inr (subst (λ (y : SinglePipe). LiesIn y appends x bytes) (sym other.same) lies))

  pub file_begun : ArePipes q e → (q.rewrite.active.seq ≡ p.rewrite.active.seq + 1) × (q.rewrite.older.items ≡ p.rewrite.older.items ++ p.rewrite.active ∷ []) → Holds q.rewrite e (rewrites ++ []) []
      → Stands e q log (p.rewrite.active.seq + 1) [] content
  file_begun pipes next holds = record {
    old = rewrites;
    new = [];
    fresh = [];
    appends = appends;
    pipes = pipes;
    rewrite = holds;
    append = other.holds appends [] c.can.append;
    tabled = subst (λ (l : Numbered). IsTabled q l appends log.tables) (sym (append-nil (rewrites ++ []) ∙ append-nil rewrites))
        (record { content = λ read reads. c.can.tabled.content read (begun_reads next.1 read reads); lengths = c.can.tabled.lengths });
    placed = c.can.placed;
    cleanable = subst (λ (x : SinglePipe). CanBeCleaned (first_of x) (traces_in log.traces) (records_of rewrites) content (filed appends)) (sym other.same) c.can.cleanable;
    together = c.together;
    anew = tt;
    records = refl;
    low = subst (λ (l : Numbered). AreBelow (p.rewrite.active.seq + 1) l) (append-nil rewrites) (holds_below p.rewrite d rewrites [] c.can.pipes.rewrite.numbers c.can.rewrite);
    rise = subst (λ (l : Numbered). FilesRise 0 (filed l)) (append-nil rewrites) (holds_rise p.rewrite d rewrites [] c.can.pipes.rewrite.numbers c.can.rewrite);
    high = tt;
    span = (omega (arith, next.0, ap length next.1, length-append p.rewrite.older.items (p.rewrite.active ∷ [])), omega (arith, next.0));
    moved = λ group i x some there. absurd cc;
  }

  -- it wasn't begun
  pub file_not_begun : Leaves q.rewrite e rewrites [] → LeavesContent e q content
  file_not_begun left = record {
    rewrites = rewrites;
    fresh = [];
    appends = appends;
    rewrite = left;
    append = pipe_leaves q.append e appends [] (other.holds appends [] c.can.append);
    fronts = fronts_synced content rewrites appends (reads_as (first_of p.append) (traces_in log.traces) rewrites appends content c.can.cleanable);
  }
