-- The items of a batch, without where they lie in memory. E stands for an entry: its bytes, its length, or its place.
use Rattle.std.specs.Prelude.{ℕ, List, map, take, drop, None}
use Rattle.raft_log_records.specs.declared.command.Command.{Command}
use Rattle.raft_log_records.specs.declared.command.Command.TheVariants as command
use Rattle.raft_log_records.specs.declared.item.EntryIndex.{EntryIndex}
use Rattle.raft_log_records.specs.declared.item.AtomicGroupStatus.{AtomicGroupStatus}
use Rattle.raft_log_records.specs.declared.item.LogItemContent.{LogItemContent}
use Rattle.raft_log_records.specs.declared.item.LogItemContent.TheVariants as content
use Rattle.raft_log_records.specs.declared.item.LogItem.{LogItem}

-- what an item does to its group
pub data Change (E : Type 0) : Type 0 where
  -- entries with their indexes, which follow one another
  entries : List (ℕ × E) → Change E
  clean : Change E
  compact : ℕ → Change E
  put : List ℕ → List ℕ → Change E
  delete : List ℕ → Change E
  mark : ℕ → AtomicGroupStatus → Change E

pub record Item (E : Type 0) : Type 0 where
  pub group : ℕ
  pub change : Change E

-- the same with each entry seen in another way
abbrev pub change_map : {E F : Type 0} → (E → F) → Change E → Change F
change_map f (entries es) = entries (map (λ e. (e.0, f e.1)) es)
change_map f clean = clean
change_map f (compact index) = compact index
change_map f (put key value) = put key value
change_map f (delete key) = delete key
change_map f (mark id status) = mark id status

abbrev pub item_map : {E F : Type 0} → (E → F) → Item E → Item F
item_map f item = record { group = item.group; change = change_map f item.change }

-- ---- the program's items

abbrev pub command_change : {E : Type 0} → Command → Change E
command_change command.Clean = clean
command_change (command.Compact index) = compact index

abbrev pub change_of : LogItemContent → Change EntryIndex
change_of (content.EntryIndexes es) = entries (map (λ e. (e.index, e)) es.items)
change_of (content.Command c) = command_change c
change_of (content.Put key value) = put key.items value.items
change_of (content.Delete key) = delete key.items
change_of (content.AtomicGroup id status) = mark id status

abbrev pub item_of : LogItem → Item EntryIndex
item_of item = record { group = item.raft_group_id; change = change_of item.content }

abbrev pub items_of : List LogItem → List (Item EntryIndex)
items_of items = map item_of items

-- an entry at this byte of a block
abbrev pub place : ℕ → ℕ → ℕ → EntryIndex
place index at len = record { index = index; entries = None; entry_offset = at; entry_len = len }

-- the bytes of an entry in its block
abbrev pub entry_bytes : List ℕ → EntryIndex → List ℕ
entry_bytes block e = take e.entry_len (drop e.entry_offset block)

-- the items with their entries' bytes
abbrev pub with_bytes : List ℕ → List (Item EntryIndex) → List (Item (List ℕ))
with_bytes block items = map (item_map (entry_bytes block)) items

-- the items with the lengths of their entries
abbrev pub with_lengths : List (Item EntryIndex) → List (Item ℕ)
with_lengths items = map (item_map (λ e. e.entry_len)) items
