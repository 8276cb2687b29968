-- The bytes of a record: the one spelling of a batch's items. All numbers are big-endian.
use Rattle.std.specs.Prelude.{◌≡◌, ◌<◌, ◌≤◌, ◌+◌, ◌^◌, ℕ, Bool, true, false, List, [], ◌∷◌, ◌++◌, length, map, bit_xor, Option}
use Rattle.std.specs.Prelude.{Some, None, IfSome, if◌then◌else◌}
use Rattle.std.specs.List.{flat_map, AllByRecursion, list_any}
use Rattle.std.specs.Int.{w32, w64, to_be_bytes}
use Rattle.raft_log_records.specs.Checksum.{crc32_of}
use Rattle.raft_log_records.specs.Item.{Change, Item, item_map}
use Rattle.raft_log_records.specs.Item.Change.{entries, clean, compact, put, delete, mark}
use Rattle.raft_log_records.specs.declared.item.EntryIndex.{EntryIndex}
use Rattle.raft_log_records.specs.declared.item.AtomicGroupStatus.{AtomicGroupStatus}
use Rattle.raft_log_records.specs.declared.item.AtomicGroupStatus.TheVariants.{Begin, Middle, End}

-- ---- items, with the lengths of their entries

-- four bytes of length, and that many bytes
abbrev pub spell_string : List ℕ → List ℕ
spell_string bytes = to_be_bytes w32 (length bytes) ++ bytes

-- an entry's index and length
abbrev pub spell_entry : ℕ × ℕ → List ℕ
spell_entry e = to_be_bytes w64 e.0 ++ to_be_bytes w32 e.1

abbrev pub status_byte : AtomicGroupStatus → ℕ
status_byte Begin = 0
status_byte Middle = 1
status_byte End = 2

-- a tag, and what belongs to it
abbrev pub spell_change : Change ℕ → List ℕ
spell_change (entries es) = 1 ∷ (to_be_bytes w32 (length es) ++ flat_map spell_entry es)
spell_change clean = 2 ∷ []
spell_change (compact index) = 3 ∷ to_be_bytes w64 index
spell_change (put key value) = 4 ∷ (spell_string key ++ spell_string value)
spell_change (delete key) = 5 ∷ spell_string key
spell_change (mark id status) = 6 ∷ (to_be_bytes w64 id ++ status_byte status ∷ [])

-- the program's entries as an item has them
abbrev pub spell_run : List EntryIndex → List ℕ
spell_run es = 1 ∷ (to_be_bytes w32 (length es) ++ flat_map spell_entry (map (λ e. (e.index, e.entry_len)) es))

abbrev pub spell_item : Item ℕ → List ℕ
spell_item item = to_be_bytes w64 item.group ++ spell_change item.change

abbrev pub spell_items : List (Item ℕ) → List ℕ
spell_items items = to_be_bytes w32 (length items) ++ flat_map spell_item items

-- ---- what has a spelling

-- the indexes follow one another from this one on
abbrev pub IsConsecutive : ℕ → List (ℕ × ℕ) → Type 0
IsConsecutive next [] = Unit {0}
IsConsecutive next (e ∷ es) = (e.0 ≡ next) × (e.0 < 2 ^ 64) × (e.1 < 2 ^ 32) × IsConsecutive (next + 1) es

-- the index of the first entry
abbrev pub first_index : {E : Type 0} → List (ℕ × E) → ℕ
first_index [] = 0
first_index (e ∷ es) = e.0

abbrev pub IsKey : List ℕ → Type 0
IsKey key = (0 < length key) × (length key < 2 ^ 32)

abbrev pub IsChange : Change ℕ → Type 0
IsChange (entries es) = (0 < length es) × (length es < 2 ^ 32) × IsConsecutive (first_index es) es
IsChange clean = Unit {0}
IsChange (compact index) = index < 2 ^ 64
IsChange (put key value) = IsKey key × (length value < 2 ^ 32)
IsChange (delete key) = IsKey key
IsChange (mark id status) = id < 2 ^ 64

-- its counts and lengths have four bytes
abbrev pub FitsBytes : {E : Type 0} → Change E → Type 0
FitsBytes (entries es) = length es < 2 ^ 32
FitsBytes (put key value) = (length key < 2 ^ 32) × (length value < 2 ^ 32)
FitsBytes (delete key) = length key < 2 ^ 32
FitsBytes _ = Unit {0}

pub record IsItem (item : Item ℕ) : Type 0 where
  pub group : item.group < 2 ^ 64
  pub change : IsChange item.change

-- ---- records

-- the entries of an item
abbrev pub entries_of : {E : Type 0} → Change E → List E
entries_of (entries es) = map (λ e. e.1) es
entries_of _ = []

abbrev pub is_entries : {E : Type 0} → Change E → Bool
is_entries (entries es) = true
is_entries _ = false

-- an item holds entries
abbrev pub holds_entries : {E : Type 0} → Item E → Bool
holds_entries item = is_entries item.change

abbrev pub is_mark : {E : Type 0} → Change E → Bool
is_mark (mark id status) = true
is_mark _ = false

-- an item is the mark of an atomic group
abbrev pub holds_mark : {E : Type 0} → Item E → Bool
holds_mark item = is_mark item.change

abbrev pub lengths : List (Item (List ℕ)) → List (Item ℕ)
lengths items = map (item_map length) items

-- the bytes of all entries, one after the other
abbrev pub block_of : List (Item (List ℕ)) → List ℕ
block_of items = flat_map (λ item. flat_map (λ bytes. bytes) (entries_of item.change)) items

-- a checksum, signed for a file
abbrev pub signed : Option ℕ → ℕ → ℕ
signed None sum = sum
signed (Some signature) sum = bit_xor sum signature

-- a signature has four bytes
abbrev pub IsSignature : Option ℕ → Type 0
IsSignature signature = IfSome signature (λ s. s < 2 ^ 32)

-- bytes with their signed checksum
abbrev pub sealed : Option ℕ → List ℕ → List ℕ
sealed signature bytes = bytes ++ to_be_bytes w32 (signed signature (crc32_of bytes))

-- the block of entries with its checksum. It is absent where no item holds entries
abbrev pub block_part : Bool → List ℕ → List ℕ
block_part holds block = if holds then sealed None block else []

abbrev pub spell_block : List (Item (List ℕ)) → List ℕ
spell_block items = block_part (list_any holds_entries items) (block_of items)

-- the whole length, where the items begin, the block of entries, and the items
abbrev pub spell_parts : Option ℕ → List ℕ → List ℕ → List ℕ
spell_parts signature block body = to_be_bytes w32 (12 + length block + length body) ++ (to_be_bytes w32 (8 + length block) ++ (block ++ sealed signature body))

unfoldable pub spell_record : Option ℕ → List (Item (List ℕ)) → List ℕ
spell_record signature items = spell_parts signature (spell_block items) (spell_items (lengths items))

-- how many bytes the record has
unfoldable pub record_len : List (Item (List ℕ)) → ℕ
record_len items = 12 + length (spell_block items) + length (spell_items (lengths items))

-- what has a record
pub record AreItems (items : List (Item (List ℕ))) : Type 0 where
  pub each : AllByRecursion IsItem (lengths items)
  pub short : record_len items ≤ 33554432
