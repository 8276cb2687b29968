-- The bytes that items write, by group.
use Rattle.std.specs.Prelude.{◌≡◌, ◌+◌, ◌-◌, ◌^◌, ◌==◌, ℕ, min, List, [], ◌∷◌, ◌++◌, length, map, Option, Some, None, codes, if◌then◌else◌}
use Rattle.std.specs.BTreeMap.{get}
use Rattle.std.specs.List.{filter_map}
use Rattle.std.specs.Ordering.{nat_cmp}
use Rattle.raft_log_records.specs.declared.item.EntryIndex.{EntryIndex}
use Rattle.raft_log_records.specs.Item.{Change, Item}
use Rattle.raft_log_records.specs.Item.Change.{entries, clean, compact, put, delete, mark}
use Rattle.raft_log_tool.specs.declared.sizes.GroupBytes.{GroupBytes}
use Rattle.raft_log_tool.specs.declared.sizes.GroupSizes.{GroupSizes}
use Rattle.raft_log_contents.specs.Endings.{named, newline}
use Rattle.raft_log_tool.specs.Lines.{sum_of}

-- numbers, as far as a number goes
abbrev pub capped : ℕ → ℕ
capped n = min n (2 ^ 64 - 1)

-- what a change writes: entries, or a key with its value; nothing where it only removes entries or the group
abbrev pub bytes_in : Change EntryIndex → Option GroupBytes
bytes_in (entries es) = Some (record { entries = sum_of (map (λ e. e.1.entry_len) es); keys = 0 })
bytes_in clean = None
bytes_in (compact index) = None
bytes_in (put key value) = Some (record { entries = 0; keys = capped (length key + length value) })
bytes_in (delete key) = Some (record { entries = 0; keys = length key })
bytes_in (mark id status) = None

-- what an item writes of a group
abbrev pub written_of : ℕ → Item EntryIndex → Option GroupBytes
written_of group item = if item.group == group then bytes_in item.change else None

abbrev pub plus : GroupBytes → GroupBytes → GroupBytes
plus a b = record { entries = capped (a.entries + b.entries); keys = capped (a.keys + b.keys) }

abbrev pub with_bytes : Option GroupBytes → GroupBytes → GroupBytes
with_bytes None more = more
with_bytes (Some before) more = plus before more

-- all of a list together, behind what is there
abbrev pub sum_behind : Option GroupBytes → List GroupBytes → Option GroupBytes
sum_behind before [] = before
sum_behind before (more ∷ others) = sum_behind (Some (with_bytes before more)) others

-- what items write of a group together; none where they write nothing of it
abbrev pub bytes_of_group : ℕ → List (Item EntryIndex) → Option GroupBytes
bytes_of_group group items = sum_behind None (filter_map (written_of group) items)

abbrev pub HasSizes : GroupSizes → List (Item EntryIndex) → Type 0
HasSizes sizes items = (group : ℕ) → get nat_cmp sizes.groups group ≡ bytes_of_group group items

-- ---- lines

abbrev pub group_text : ℕ × GroupBytes → List ℕ
group_text group = named (codes "group ") group.0 ++ named (codes " entries ") group.1.entries ++ named (codes " keys ") group.1.keys ++ newline
