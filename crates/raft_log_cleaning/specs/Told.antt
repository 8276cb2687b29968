-- Which groups are told to compact where both queues are cleaned.
use Rattle.std.specs.Prelude.{◌≡◌, ◌↔◌, ◌<◌, ◌||◌, ℕ, Bool, true, IsTrue, is_some, List}
use Rattle.std.specs.BTreeMap.{BTreeMap, get}
use Rattle.std.specs.Ordering.{nat_cmp}
use Rattle.raft_log_disk.specs.Disk.{Disk}
use Rattle.raft_log_pipes.specs.declared.pipes.DualPipes.{DualPipes}
use Rattle.raft_log_memtables.specs.Content.{Content, GroupContent}
use Rattle.raft_log_memtables.specs.MemTables.{content_in}
use Rattle.raft_log_records.specs.declared.item.EntryIndex.{EntryIndex}
use Rattle.raft_log_purge.specs.declared.reports.Reports.{Reports}
use Rattle.raft_log_purge.specs.Due.{IsLarge}
use Rattle.raft_log_traced.specs.declared.traced.TracedTables.{TracedTables}
use Rattle.raft_log_cleaner.specs.declared.manager.PurgeManager.{PurgeManager}
use Rattle.raft_log_cleaner.specs.Cleaning.{CanClean}
use Rattle.raft_log_cleaner.specs.Facts.{AreSoMany, is_rewritten}
use Rattle.raft_log_cleaner.specs.Live.{AreLive}
use Rattle.raft_log_cleaner.specs.Told.{AreTold, is_among, marks_of_pipe, queue_of}
use Rattle.raft_log_cleaning.specs.Extents.{HasOnlyNew}

abbrev pub is_named : BTreeMap ℕ Bool → ℕ → Bool
is_named named group = is_some (get nat_cmp named group)

-- so many of a group's entries stand in the rewrite queue, and it is told just where they are more than 32
pub record IsToldOfMany (g : GroupContent EntryIndex) (told : Bool) : Type 0 where
  pub count : ℕ
  pub are : AreSoMany is_rewritten g.entry count
  pub many : IsTrue told ↔ (32 < count)

-- these groups are told as the rewrite queue is written anew: just those of the groups that are there
pub record AreMany (log : TracedTables) (told : ℕ → Bool) : Type 0 where
  pub there : (group : ℕ) → told group ≡ true → (content_in log.tables group).there ≡ true
  pub judged : (group : ℕ) → (content_in log.tables group).there ≡ true → IsToldOfMany (content_in log.tables group) (told group)

-- The append queue was judged, and cleaned if it was large. These groups were told then, and the others that were told before
pub record IsToldBehind (m : PurgeManager) (p : DualPipes) (log : TracedTables) (after : Reports) (many : ℕ → Bool) (told : List ℕ) : Type 0 where
  pub more : List ℕ
  pub are_more : IsLarge (queue_of p.append) m.purge_threshold → AreTold log (marks_of_pipe p.append) m.reports after more
  pub both : (group : ℕ) → is_among told group ≡ (many group || is_among more group)

-- First the rewrite queue was written anew, and its counters began again. Then the append queue was cleaned, if it was large. These
-- groups were told by either
pub record IsCleanedAnew (d : Disk) (p : DualPipes) (log : TracedTables) (m : PurgeManager) (e : Disk) (q : DualPipes) (new : TracedTables) (after : Reports) (told : List ℕ) : Type 0 where
  pub disk : Disk
  pub pipes : DualPipes
  pub between : TracedTables
  pub before : (content : Content (List ℕ)) → CanClean d p log content → CanClean disk pipes between content
  pub behind : (content : Content (List ℕ)) → CanClean disk pipes between content → CanClean e q new content
  pub anew : HasOnlyNew p pipes
  pub append : pipes.append ≡ p.append
  pub begins_again : AreLive log between.written
  pub many : ℕ → Bool
  pub are_many : AreMany log many
  pub told_behind : IsToldBehind m pipes between after many told
