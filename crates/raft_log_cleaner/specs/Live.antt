-- How much of the rewrite queue still counts.
use Rattle.std.specs.Prelude.{◌≡◌, ◌+◌, ◌-◌, ◌^◌, ◌*◌, ℕ, min, is_some, length, if◌then◌else◌, true, List, [], ◌∷◌, Option, None}
use Rattle.std.specs.List.Sorted.{IsStrictlySortedBy}
use Rattle.std.specs.Ordering.{nat_cmp}
use Rattle.raft_log_records.specs.declared.item.EntryIndex.{EntryIndex}
use Rattle.raft_log_memtables.specs.Content.{GroupContent}
use Rattle.raft_log_memtables.specs.MemTables.{content_in}
use Rattle.raft_log_memtables.specs.Scan.{AreKeysBetween}
use Rattle.raft_log_covers.specs.Trace.{Trace}
use Rattle.raft_log_purge.specs.declared.due.RewriteCounts.{RewriteCounts}
use Rattle.raft_log_traced.specs.declared.traced.TracedTables.{TracedTables}
use Rattle.raft_log_traces.specs.GroupTraces.{traces_in}
use Rattle.raft_log_cleaner.specs.Facts.{AreSoMany, is_rewritten}
use Rattle.raft_log_cleaner.specs.Told.{is_among}

-- of these keys so many stand in the rewrite queue
abbrev pub count_stored : Trace → List (List ℕ × List ℕ) → ℕ
count_stored t [] = 0
count_stored t (pair ∷ pairs) = (if is_some (t.key_file pair.0) then 0 else 1) + count_stored t pairs

-- of a group's keys
pub record AreSoManyKeys (value : List ℕ → Option (List ℕ)) (t : Trace) (count : ℕ) : Type 0 where
  pub pairs : List (List ℕ × List ℕ)
  pub all : AreKeysBetween value None None pairs
  pub is : count ≡ count_stored t pairs

-- So many entries and keys of a group stand in the rewrite queue. An entry at the greatest index isn't counted: it is never rewritten
pub record AreLiveOf (g : GroupContent EntryIndex) (t : Trace) (count : ℕ) : Type 0 where
  pub entries : ℕ
  pub keys : ℕ
  pub of_entries : AreSoMany is_rewritten g.entry entries
  pub of_keys : AreSoManyKeys g.value t keys
  pub is : count ≡ entries + keys

-- of these groups
abbrev pub AreLiveIn : TracedTables → List ℕ → ℕ → Type 0
AreLiveIn log [] count = count ≡ 0
AreLiveIn log (group ∷ groups) count =
    (own : ℕ) × (rest : ℕ) × AreLiveOf (content_in log.tables group) (traces_in log.traces group) own × AreLiveIn log groups rest × (count ≡ own + rest)

-- So much counts in the rewrite queue, which is what it has once it is written anew: the entries and keys of all groups that stand
-- there, and of each group a Clean and a Compact. A count stays at 2^64 - 1
pub record AreLive (log : TracedTables) (live : RewriteCounts) : Type 0 where
  pub groups : List ℕ
  pub rising : IsStrictlySortedBy nat_cmp groups
  pub exactly : (group : ℕ) → (content_in log.tables group).there ≡ is_among groups group
  pub all : ℕ
  pub counted : AreLiveIn log groups all
  pub sets : live.sets ≡ min all (2 ^ 64 - 1)
  pub marks : live.marks ≡ min (length groups * 2) (2 ^ 64 - 1)
