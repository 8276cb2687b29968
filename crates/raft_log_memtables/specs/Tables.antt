-- What the memtables of groups mean, as the program has them.
use Rattle.std.specs.Prelude.{◌≡◌, ℕ, Option, Some, None, IsSome, true, false, nat_eq}
use Rattle.std.specs.BTreeMap.{BTreeMap, get}
use Rattle.std.specs.Ordering.{nat_cmp}
use Rattle.raft_log_records.specs.declared.item.EntryIndex.{EntryIndex}
use Rattle.raft_log_records.specs.Item.{Change}
use Rattle.raft_log_memtables.specs.declared.memtable.MemTable.{MemTable}
use Rattle.raft_log_memtables.specs.Content.{GroupContent, Content, no_group, after_change, reach_after}
use Rattle.raft_log_memtables.specs.MemTable.{table_content}

-- what a group has by its memtable, if there is one
abbrev pub content_by : Option MemTable → GroupContent EntryIndex
content_by None = no_group
content_by (Some t) = table_content t

abbrev pub reach_by : Option MemTable → Option ℕ
reach_by None = None
reach_by (Some t) = t.reached

abbrev pub table_at : BTreeMap ℕ MemTable → Content EntryIndex
table_at tables group = content_by (get nat_cmp tables group)

abbrev pub reach_at : BTreeMap ℕ MemTable → ℕ → Option ℕ
reach_at tables group = reach_by (get nat_cmp tables group)

-- a group as an item that sets something of it leaves it: it is there
abbrev pub present : GroupContent EntryIndex → GroupContent EntryIndex
present g = record { there = true; entry = g.entry; value = g.value }

-- a group has a memtable now, and has what it had
pub record IsMade (old : BTreeMap ℕ MemTable) (group : ℕ) (new : BTreeMap ℕ MemTable) : Type 0 where
  pub there : IsSome (get nat_cmp new group)
  pub content : table_at new group ≡ present (table_at old group)
  pub reach : reach_at new group ≡ reach_at old group
  pub others : (other : ℕ) → nat_eq group other ≡ false → get nat_cmp new other ≡ get nat_cmp old other

-- a group was changed, and others stay
pub record IsChanged (old : BTreeMap ℕ MemTable) (group : ℕ) (change : Change EntryIndex) (new : BTreeMap ℕ MemTable) : Type 0 where
  pub content : table_at new group ≡ after_change change (table_at old group)
  pub reach : reach_at new group ≡ reach_after change (reach_at old group)
  pub others : (other : ℕ) → nat_eq group other ≡ false → get nat_cmp new other ≡ get nat_cmp old other
