-- Queues that can be cleaned, as a log engine keeps them from call to call, and what keeps them so.
use Rattle.std.specs.Prelude.{◌≡◌, ◌≤◌, ◌<◌, ℕ, List, [], ◌∷◌, ◌++◌, None}
use Rattle.std.specs.List.{AllByRecursion}
use Rattle.raft_log_records.specs.Item.{Item}
use Rattle.raft_log_memtables.specs.Content.{Content, nothing, after_batch}
use Rattle.raft_log_memtables.specs.Replay.{content_of, mark_of}
use Rattle.raft_log_memtables.specs.Taken.{TakesEach}
use Rattle.raft_log_covers.specs.Account.{Account}
use Rattle.raft_log_covers.specs.Cells.{AreUnmarked, after_batches}
use Rattle.raft_log_covers.specs.Kept.{Traces, new_trace, traces_after}
use Rattle.raft_log_covers.specs.Queues.{Filed, FilesRise, batches_of}
use Rattle.raft_log_traces.specs.Alike.{AreAlike}
use Rattle.raft_log_traces.specs.Files.{KeepsFrom}
use Rattle.raft_log_marks.specs.Cleaning.{IsCleanable}
use Rattle.raft_log_marks.specs.Whole.{HasLast, Follows}

-- By these traces the append files from the first one on may be cleaned: what the rewrite queue's records and the append queue's
-- batches read as is the content, and no trace keeps a file before the first one. Whatever was there before all these files is
-- for proofs alone.
pub record CanBeCleaned {E : Type 0} (first : ℕ) (traces : Traces) (records : List (List (Item E))) (content : Content E) (bs : List (Filed E)) : Type 0 where
  pub account : Account
  pub start : Content E
  pub base : content ≡ after_batches (batches_of bs) start
  pub cleanable : IsCleanable traces account records content bs
  pub rise : FilesRise first bs
  pub unmarked : AreUnmarked (batches_of bs)
  pub kept : (group : ℕ) → KeepsFrom first (traces group)
  pub last : (group : ℕ) → HasLast (traces group) (content group)

-- ---- what an opening of both queues reads

abbrev pub CleanedQueuesReadAsTheContent : Type 0 → Type 0
CleanedQueuesReadAsTheContent E = (first : ℕ) (traces : Traces) (records : List (List (Item E))) (content : Content E) (bs : List (Filed E))
    → CanBeCleaned first traces records content bs → content_of (records ++ batches_of bs) ≡ content

-- ---- what keeps them so

-- no queue has anything
abbrev pub NewQueuesCanBeCleaned : Type 0 → Type 0
NewQueuesCanBeCleaned E = (first : ℕ) → CanBeCleaned {E = E} first (λ group. new_trace) [] nothing []

-- A batch that memtables take is written to the last append file, or to a later one.
abbrev pub WritesLeaveCleanable : Type 0 → Type 0
WritesLeaveCleanable E = (first file : ℕ) (traces others : Traces) (records : List (List (Item E))) (content : Content E) (bs : List (Filed E)) (items : List (Item E))
    → CanBeCleaned first traces records content bs → first ≤ file → FilesRise first (bs ++ record { file = file; items = items } ∷ [])
    → TakesEach items content → AllByRecursion (λ item. Follows item.change) items → mark_of items ≡ None
    → AreAlike (traces_after file items traces) others
    → CanBeCleaned first others records (after_batch items content) (bs ++ record { file = file; items = items } ∷ [])

-- The first append files went, and no trace keeps one of them.
abbrev pub FilesThatGoLeaveCleanable : Type 0 → Type 0
FilesThatGoLeaveCleanable E = (first next : ℕ) (traces : Traces) (records : List (List (Item E))) (content : Content E) (gone left : List (Filed E))
    → CanBeCleaned first traces records content (gone ++ left) → ((group : ℕ) → KeepsFrom next (traces group))
    → AllByRecursion (λ b. b.file < next) gone → FilesRise next left
    → CanBeCleaned next traces records content left
