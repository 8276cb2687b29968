-- The lines of items, of where files ended, and of holes.
use Rattle.std.specs.Prelude.{ℕ, ◌^◌, ◌-◌, min, Bool, true, false, not, List, [], ◌∷◌, ◌++◌, length, map, sum, codes}
use Rattle.std.specs.Fmt.{decimal}
use Rattle.std.specs.List.{flat_map}
use Rattle.hex.specs.Hex.{encode_lower}
use Rattle.raft_log_records.specs.declared.file_id.FileId.{FileId}
use Rattle.raft_log_records.specs.declared.item.AtomicGroupStatus.{AtomicGroupStatus}
use Rattle.raft_log_records.specs.declared.item.AtomicGroupStatus.TheVariants.{Begin, End, Middle}
use Rattle.raft_log_records.specs.declared.item.EntryIndex.{EntryIndex}
use Rattle.raft_log_records.specs.Item.{Change, Item, items_of}
use Rattle.raft_log_records.specs.Item.Change.{entries, clean, compact, put, delete, mark}
use Rattle.raft_log_items.specs.Holes.{last_behind}
use Rattle.raft_log_contents.specs.Endings.{ending_text, file_text, named, newline}
use Rattle.raft_log_contents.specs.declared.content.Ending.{Ending}
use Rattle.raft_log_contents.specs.declared.content.Ending.TheVariants.{Fault, Room, Whole}
use Rattle.raft_log_contents.specs.declared.content.LogContent.{LogContent}

-- a sum as far as a number goes
abbrev pub sum_of : List ℕ → ℕ
sum_of numbers = min (sum numbers) (2 ^ 64 - 1)

-- ---- items

abbrev pub mark_text : AtomicGroupStatus → List ℕ
mark_text Begin = codes " begin"
mark_text Middle = codes " middle"
mark_text End = codes " end"

-- what an item does
abbrev pub change_text : Change EntryIndex → List ℕ
change_text (entries []) = codes "no entries"
change_text (entries (e ∷ es)) =
    named (codes "entries ") e.0 ++ named (codes " to ") (last_behind e.0 es) ++ named (codes " bytes ") (sum_of (map (λ x. x.1.entry_len) (e ∷ es)))
change_text clean = codes "clean"
change_text (compact index) = named (codes "compact before ") index
change_text (put key value) = (codes "put " ++ encode_lower key) ++ named (codes " bytes ") (length value)
change_text (delete key) = codes "delete " ++ encode_lower key
change_text (mark id status) = named (codes "mark ") id ++ mark_text status

-- entries that are given by their places
abbrev pub entries_text : List EntryIndex → List ℕ
entries_text es = change_text (entries (map (λ e. (e.index, e)) es))

-- an item of a file
abbrev pub item_text : FileId → Item EntryIndex → List ℕ
item_text id item = file_text id ++ named (codes " group ") item.group ++ codes " " ++ change_text item.change ++ newline

-- ---- where files ended

-- a check tells of a file that ended so: of room only where another file follows, since an opening cuts the last one there
abbrev pub is_finding : Ending → Bool → Bool
is_finding Whole is_last = false
is_finding Room is_last = not is_last
is_finding (Fault fault) is_last = true

-- the lines of a file
abbrev pub content_text : FileId → LogContent → List ℕ
content_text id content = flat_map (item_text id) (items_of content.items.items) ++ ending_text id content.ending content.to content.size

-- ---- holes

-- a group, and the last index before its first hole
abbrev pub hole_text : ℕ × ℕ → List ℕ
hole_text hole = named (codes "hole in group ") hole.0 ++ named (codes " behind ") hole.1 ++ newline

abbrev pub holes_text : List (ℕ × ℕ) → List ℕ
holes_text [] = codes "no holes" ++ newline
holes_text (hole ∷ holes) = flat_map hole_text (hole ∷ holes)
