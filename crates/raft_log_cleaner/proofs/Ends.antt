-- How a cleaning begins and ends: with a log that can be cleaned.
use Rattle.std.proofs.Common.{◌≡◌, ℕ, List, [], ◌++◌, sym, ap, subst, ◌∙◌}
use Rattle.std.proofs.lemmas.List.{append-nil}
use Rattle.std.specs.Prelude.{Result, Ok, Err, OnOk}
use Rattle.raft_log_disk.specs.Disk.{Disk}
use Rattle.raft_log_file.specs.Laws.{Batch}
use Rattle.raft_log_pipe.specs.Pipe.{Holds, Numbered, first_of}
use Rattle.raft_log_pipes.specs.declared.pipes.DualPipes.{DualPipes}
use Rattle.raft_log_memtables.specs.Content.{Content}
use Rattle.raft_log_memtables.specs.MemTables.{content_in}
use Rattle.raft_log_covers.specs.Kept.{Traces}
use Rattle.raft_log_traces.specs.GroupTraces.{traces_in}
use Rattle.raft_log_marks.specs.Standing.{CanBeCleaned}
use Rattle.raft_log_purge.specs.Anew.{StandTogether}
use Rattle.raft_log_purge.proofs.StepLemmas.{no_steps, steps_of_nothing}
use Rattle.raft_log_blocks.specs.Held.{IsTabled, ReadsEntries, seen_on}
use Rattle.raft_log_blocks.specs.Placed.{bytes_on}
use Rattle.raft_log_blocks.proofs.EntryReads.{disk_reads}
use Rattle.raft_log_traced.specs.declared.traced.TracedTables.{TracedTables}
use Rattle.raft_log_cleaner.specs.Cleaning.{CanClean, IsCleaning, IsSynced, LeavesContent, filed, records_of}
use Rattle.raft_log_marks.specs.Opened.{TellPlaces}
use Rattle.raft_log_traced.specs.Traced.{lies_in}
use Rattle.raft_log_cleaner.specs.Pipes.{KeepsPipes, LeavesPipes}
use Rattle.raft_log_cleaner.proofs.Keeping.{pipe_left}
use Rattle.raft_log_cleaner.proofs.Standing.{fronts_synced, pipe_leaves, reads_as}

pub begins : (d : Disk) (p : DualPipes) (log : TracedTables) (content : Content (List ℕ)) → CanClean d p log content → IsCleaning d p log [] content
begins d p log content c = record {
  rewrites = c.rewrites;
  fresh = [];
  appends = c.appends;
  before = traces_in log.traces;
  pipes = c.pipes;
  rewrite = c.rewrite;
  append = c.append;
  tabled = subst (λ (l : Numbered). IsTabled p l c.appends log.tables) (sym (append-nil c.rewrites)) c.tabled;
  placed = c.placed;
  fronts = fronts_synced content c.rewrites c.appends (reads_as (first_of p.append) (traces_in log.traces) c.rewrites c.appends content c.cleanable);
  cleanable = subst (λ (l : Numbered). CanBeCleaned (first_of p.append) (traces_in log.traces) (records_of l) content (filed c.appends)) (sym (append-nil c.rewrites)) c.cleanable;
  steps = no_steps content (traces_in log.traces) [];
  together = λ is. subst (λ (l : Numbered). StandTogether (records_of l)) (sym (append-nil c.rewrites)) (c.together is);
}

-- with an empty batch, and all on the disk
pub ends : (d : Disk) (p : DualPipes) (log : TracedTables) (items : Batch) (content : Content (List ℕ)) → items ≡ [] → IsSynced d p log items content → CanClean d p log content
ends d p log items content none synced =
    let s = synced.0 in
    let whole : s.rewrites ++ s.fresh ≡ s.rewrites = ap (λ (l : Numbered). s.rewrites ++ l) synced.1 ∙ append-nil s.rewrites in
    let now : s.before ≡ traces_in log.traces = steps_of_nothing content s.before (traces_in log.traces) items s.steps none in
    record {
      rewrites = s.rewrites;
      appends = s.appends;
      pipes = s.pipes;
      rewrite = subst (λ (l : Numbered). Holds p.rewrite d s.rewrites l) synced.1 s.rewrite;
      append = s.append;
      tabled = subst (λ (l : Numbered). IsTabled p l s.appends log.tables) whole s.tabled;
      placed = subst (λ (t : Traces). TellPlaces lies_in t (content_in log.tables)) now s.placed;
      cleanable =
          subst (λ (t : Traces). CanBeCleaned (first_of p.append) t (records_of s.rewrites) content (filed s.appends)) now
          (subst (λ (l : Numbered). CanBeCleaned (first_of p.append) s.before (records_of l) content (filed s.appends)) whole s.cleanable);
      together = λ is. subst (λ (l : Numbered). StandTogether (records_of l)) whole (s.together is);
    }

-- what reads see of such a log
pub seen : (d : Disk) (p : DualPipes) (log : TracedTables) (content : Content (List ℕ)) → CanClean d p log content → seen_on d p log.tables ≡ content
seen d p log content c =
    c.tabled.content (bytes_on d p) (subst (λ (l : Numbered). ReadsEntries p c.rewrites l (bytes_on d p)) (append-nil c.appends) (disk_reads p d c.rewrites c.appends [] c.pipes c.rewrite c.append))
    ∙ reads_as (first_of p.append) (traces_in log.traces) c.rewrites c.appends content c.cleanable

pub can_leave : (d : Disk) (p : DualPipes) (log : TracedTables) (content : Content (List ℕ)) → CanClean d p log content → LeavesContent d p content
can_leave d p log content c = record {
  rewrites = c.rewrites;
  fresh = [];
  appends = c.appends;
  rewrite = pipe_leaves p.rewrite d c.rewrites [] c.rewrite;
  append = pipe_leaves p.append d c.appends [] c.append;
  fronts = fronts_synced content c.rewrites c.appends (reads_as (first_of p.append) (traces_in log.traces) c.rewrites c.appends content c.cleanable);
}

-- and so are its pipes
pub can_be_left : (d e : Disk) (p q : DualPipes) (log : TracedTables) (content : Content (List ℕ)) → CanClean e q log content → KeepsPipes d p e q → LeavesPipes d p e q
can_be_left d e p q log content c kept = record {
  append = pipe_left p.append q.append d e c.appends [] c.append kept.append;
  rewrite = pipe_left p.rewrite q.rewrite d e c.rewrites [] c.rewrite kept.rewrite;
}

pub ends_ok : {X E : Type 0} (result : Result X E) (d : Disk) (p : DualPipes) (log : TracedTables) (items : Batch) (content : Content (List ℕ)) → items ≡ [] → OnOk result (IsSynced d p log items content) → OnOk result (CanClean d p log content)
ends_ok (Ok x) d p log items content none synced = ends d p log items content none synced
ends_ok (Err x) d p log items content none synced = tt

-- with a batch that is empty
pub begins_with : (d : Disk) (p : DualPipes) (log : TracedTables) (items : Batch) (content : Content (List ℕ)) → items ≡ [] → CanClean d p log content → IsCleaning d p log items content
begins_with d p log items content none can = subst (λ (l : Batch). IsCleaning d p log l content) (sym none) (begins d p log content can)
