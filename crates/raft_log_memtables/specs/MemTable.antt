-- What a memtable means.
use Rattle.std.specs.Prelude.{ℕ, Bool, true, false, List, map, Option, None, Vec}
use Rattle.std.specs.declared.alloc.Global.{Global}
use Rattle.std.specs.Option.{option_map}
use Rattle.std.specs.BTreeMap.{BTreeMap, get_by}
use Rattle.std.specs.Cmp.Lexicographic.{slice_cmp}
use Rattle.std.specs.Ordering.{nat_cmp}
use Rattle.raft_log_records.specs.declared.file_id.FileBlockHandle.{FileBlockHandle}
use Rattle.raft_log_records.specs.declared.item.EntryIndex.{EntryIndex}
use Rattle.raft_log_records.specs.declared.record.LogItemBatch.{LogItemBatch}
use Rattle.raft_log_records.specs.Item.{Change, Item, change_map, item_map, items_of}
use Rattle.raft_log_records.specs.Item.Change.{entries, clean, compact, put, delete, mark}
use Rattle.raft_log_memtables.specs.declared.memtable.MemTable.{MemTable}
use Rattle.raft_log_memtables.specs.Content.{GroupContent}
use Rattle.raft_log_memtables.specs.Entries.{entry_of, placed_in}

-- the value of a key, in a map
abbrev pub value_of : BTreeMap (Vec ℕ Global) (Vec ℕ Global) → List ℕ → Option (List ℕ)
value_of keys key = option_map (λ v. v.items) (get_by (λ k. slice_cmp nat_cmp key k.items) keys)

-- what a memtable has of its group
abbrev pub table_content : MemTable → GroupContent EntryIndex
table_content t = record { there = true; entry = entry_of t.entries; value = value_of t.keys }

unfoldable pub group_in : MemTable → GroupContent EntryIndex
group_in t = table_content t

unfoldable pub reached_in : MemTable → Option ℕ
reached_in t = t.reached

-- a group that is there without entries and keys
abbrev pub only_there : GroupContent EntryIndex
only_there = record { there = true; entry = λ _. None; value = λ _. None }

abbrev pub items_in : FileBlockHandle → List (Item EntryIndex) → List (Item EntryIndex)
items_in handle items = map (item_map (placed_in handle)) items

-- the items of a batch, whose entries lie in this block
abbrev pub batch_items : FileBlockHandle → LogItemBatch → List (Item EntryIndex)
batch_items handle batch = items_in handle (items_of batch.items.items)

-- what an item does to its group, where its entries lie in this block
abbrev pub placed_change : FileBlockHandle → Change EntryIndex → Change EntryIndex
placed_change handle change = change_map (placed_in handle) change

abbrev pub is_clean_of : {E : Type 0} → Change E → Bool
is_clean_of clean = true
is_clean_of (entries es) = false
is_clean_of (compact limit) = false
is_clean_of (put key value) = false
is_clean_of (delete key) = false
is_clean_of (mark id status) = false

abbrev pub is_mark_of : {E : Type 0} → Change E → Bool
is_mark_of (mark id status) = true
is_mark_of clean = false
is_mark_of (entries es) = false
is_mark_of (compact limit) = false
is_mark_of (put key value) = false
is_mark_of (delete key) = false
