-- Which groups a cleaning tells to compact.
use Rattle.std.specs.Prelude.{◌≡◌, ◌+◌, ◌-◌, ◌*◌, ◌^◌, ◌↔◌, ℕ, Bool, true, false, IsTrue, List, length, min}
use Rattle.std.specs.List.Sorted.{IsStrictlySortedBy}
use Rattle.std.specs.Ordering.{eq_by_cmp, nat_cmp}
use Rattle.std.specs.Set.{is_member}
use Rattle.raft_log_records.specs.declared.item.EntryIndex.{EntryIndex}
use Rattle.raft_log_pipe.specs.declared.pipe.SinglePipe.{SinglePipe}
use Rattle.raft_log_pipe.specs.Pipe.{first_of}
use Rattle.raft_log_memtables.specs.Content.{Content, GroupContent}
use Rattle.raft_log_memtables.specs.MemTables.{content_in}
use Rattle.raft_log_covers.specs.Kept.{Traces}
use Rattle.raft_log_covers.specs.Trace.{Trace}
use Rattle.raft_log_purge.specs.declared.choice.GroupFacts.{GroupFacts}
use Rattle.raft_log_purge.specs.declared.due.QueueFiles.{QueueFiles}
use Rattle.raft_log_purge.specs.declared.reports.Reports.{Reports}
use Rattle.raft_log_purge.specs.declared.watermarks.Watermarks.{Watermarks}
use Rattle.raft_log_purge.specs.declared.choice.Choice.{Choice}
use Rattle.raft_log_purge.specs.Choice.{IsLeft, IsRewritten, IsTold}
use Rattle.raft_log_purge.specs.Reports.{count_in}
use Rattle.raft_log_purge.specs.Watermarks.{mark_at}
use Rattle.raft_log_traced.specs.declared.traced.TracedTables.{TracedTables}
use Rattle.raft_log_traces.specs.GroupTraces.{traces_in}
use Rattle.raft_log_cleaner.specs.Facts.{AreFactsOf}

-- the files of a queue
abbrev pub queue_of : SinglePipe → QueueFiles
queue_of p = record {
  first = first_of p;
  active = p.active.seq;
  size = min ((length p.older.items + 1) * p.target_file_size) (2 ^ 64 - 1);
}

-- and its marks
abbrev pub marks_of_pipe : SinglePipe → Watermarks
marks_of_pipe p = record { compact = mark_at (first_of p) p.active.seq 20; rewrite = mark_at (first_of p) p.active.seq 70 }

-- what is done with a group that was told and left alone so many times in a row, by its facts
pub record IsChosen (g : GroupContent EntryIndex) (t : Trace) (marks : Watermarks) (before : ℕ) (choice : Choice) : Type 0 where
  pub facts : GroupFacts
  pub are : AreFactsOf g t marks.rewrite before facts
  pub told : IsTrue choice.is_told ↔ IsTold facts marks
  pub left : IsTrue choice.is_left ↔ IsLeft facts marks
  pub rewritten : IsTrue choice.is_rewritten ↔ IsRewritten facts marks

-- A group is told just where its facts say so. Left alone, it was told once more in a row than before, and else never
pub record IsJudged (g : GroupContent EntryIndex) (t : Trace) (marks : Watermarks) (before after : ℕ) (told : Bool) : Type 0 where
  pub facts : GroupFacts
  pub are : AreFactsOf g t marks.rewrite before facts
  pub is_told : IsTrue told ↔ IsTold facts marks
  pub left : IsLeft facts marks → after ≡ before + 1
  pub not_left : (IsLeft facts marks → ⊥) → after ≡ 0

-- is the group among these?
abbrev pub is_among : List ℕ → ℕ → Bool
is_among groups group = is_member (eq_by_cmp nat_cmp) groups group

-- These groups are told, rising, each once: of the groups that are there just those that are to be. What is kept of others begins again
pub record AreTold (log : TracedTables) (marks : Watermarks) (before after : Reports) (told : List ℕ) : Type 0 where
  pub rising : IsStrictlySortedBy nat_cmp told
  pub there : (group : ℕ) → is_among told group ≡ true → (content_in log.tables group).there ≡ true
  pub judged : (group : ℕ) → (content_in log.tables group).there ≡ true
      → IsJudged (content_in log.tables group) (traces_in log.traces group) marks (count_in before group) (count_in after group) (is_among told group)
  pub others : (group : ℕ) → (content_in log.tables group).there ≡ false → count_in after group ≡ 0
