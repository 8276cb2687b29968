-- Reading a record from left to right, with the first fault that is met.
use Rattle.std.specs.Prelude.{◌≡◌, ◌⊎◌, ◌+◌, ◌-◌, ℕ, zero, suc, Bool, not, ◌||◌, List, [], ◌∷◌, length, take}
use Rattle.std.specs.Prelude.{drop, Option, None, Result, Ok, Err, nat_lt, ◌==◌, if◌then◌else◌}
use Rattle.std.specs.List.{list_any}
use Rattle.std.specs.Int.{Width, w32, w64, from_be_bytes}
pub use Rattle.raft_bytes.specs.Bytes.{AreBytes, ◌>>=◌, number_or}
use Rattle.raft_log_records.specs.Checksum.{crc32_of}
use Rattle.raft_log_records.specs.Item.{Change, Item, place, items_of, with_bytes}
use Rattle.raft_log_records.specs.Item.Change.{entries, clean, compact, put, delete, mark}
use Rattle.raft_log_records.specs.Places.{indexed, placed}
use Rattle.raft_log_records.specs.Spelling.{signed, holds_entries, block_of}
use Rattle.raft_log_records.specs.declared.record.Record.{Record}
use Rattle.raft_log_records.specs.declared.item.EntryIndex.{EntryIndex}
use Rattle.raft_log_records.specs.declared.item.AtomicGroupStatus.{AtomicGroupStatus}
use Rattle.raft_log_records.specs.declared.item.AtomicGroupStatus.TheVariants.{Begin, Middle, End}
use Rattle.raft_log_records.specs.declared.error.RecordFault.{RecordFault}
use Rattle.raft_log_records.specs.declared.error.RecordFault.TheVariants as fault
use Rattle.raft_log_records.specs.declared.error.RecordError.{RecordError}
use Rattle.raft_log_records.specs.declared.error.RecordError.TheVariants as errors

-- What a function returned, seen by view, is what reading gives, unless memory ran out.
abbrev pub Fails : {Y : Type 0} → RecordError → Result Y RecordFault → Type 0
Fails errors.Memory read = Unit {0}
Fails errors.TooLong read = ⊥
Fails (errors.Corruption f) read = read ≡ Err f

abbrev pub Gives : {X Y : Type 0} → (X → Y) → Result X RecordError → Result Y RecordFault → Type 0
Gives view (Ok x) read = read ≡ Ok (view x)
Gives view (Err e) read = Fails e read

-- the same of a function that needs no memory
abbrev pub Tells : {X Y : Type 0} → (X → Y) → Result X RecordFault → Result Y RecordFault → Type 0
Tells view (Ok x) read = read ≡ Ok (view x)
Tells view (Err f) read = read ≡ Err f

-- ---- fields: a value and the bytes after it

-- a number of the items
abbrev pub number_at : Width → List ℕ → Result (ℕ × List ℕ) RecordFault
number_at w bytes = number_or fault.ItemsCutShort w bytes

unfoldable pub string_at : List ℕ → Result (List ℕ × List ℕ) RecordFault
string_at bytes = do
  n ← number_at w32 bytes
  if nat_lt (length n.1) n.0 then Err fault.ItemsCutShort else Ok (take n.0 n.1, drop n.0 n.1)

unfoldable pub key_at : List ℕ → Result (List ℕ × List ℕ) RecordFault
key_at bytes = do
  key ← string_at bytes
  if length key.0 == 0 then Err fault.EmptyKey else Ok key

unfoldable pub status_at : List ℕ → Result (AtomicGroupStatus × List ℕ) RecordFault
status_at [] = Err fault.ItemsCutShort
status_at (zero ∷ rest) = Ok (Begin, rest)
status_at (suc zero ∷ rest) = Ok (Middle, rest)
status_at (suc (suc zero) ∷ rest) = Ok (End, rest)
status_at (suc (suc (suc b)) ∷ rest) = Err fault.BadTag

-- ---- entries: their bytes lie one after the other in the block, of limit bytes, from at on

-- an entry with this index, which lies within the block
unfoldable pub entry_at : ℕ → ℕ → ℕ → List ℕ → Result (EntryIndex × List ℕ) RecordFault
entry_at next limit at bytes = do
  index ← number_at w64 bytes
  len ← number_at w32 index.1
  if not (index.0 == next) then Err fault.NotConsecutive
      else if nat_lt (limit - at) len.0 then Err fault.EntriesLength
      else Ok (place index.0 at len.0, len.1)

-- so many entries with indexes from next on: the entries, the bytes of the block up to their end, and the rest
unfoldable pub entries_at : ℕ → ℕ → ℕ → ℕ → List ℕ → Result (List EntryIndex × ℕ × List ℕ) RecordFault
entries_at zero next limit at bytes = Ok ([], at, bytes)
entries_at (suc n) next limit at bytes = do
  first ← entry_at next limit at bytes
  others ← entries_at n (next + 1) limit (at + first.0.entry_len) first.1
  Ok (first.0 ∷ others.0, others.1, others.2)

-- a count above 0, and so many entries from the first one's index on
unfoldable pub run_at : ℕ → ℕ → List ℕ → Result (List EntryIndex × ℕ × List ℕ) RecordFault
run_at limit at bytes = do
  count ← number_at w32 bytes
  if count.0 == 0 then Err fault.NotConsecutive else do
    first ← number_at w64 count.1
    entries_at count.0 first.0 limit at count.1

-- ---- items

unfoldable pub change_behind : ℕ → ℕ → ℕ → List ℕ → Result (Change EntryIndex × ℕ × List ℕ) RecordFault
change_behind tag limit at bytes =
    if tag == 1 then (do
      es ← run_at limit at bytes
      Ok (entries (indexed es.0), es.1, es.2))
    else if tag == 2 then Ok (clean, at, bytes)
    else if tag == 3 then (do
      index ← number_at w64 bytes
      Ok (compact index.0, at, index.1))
    else if tag == 4 then (do
      key ← key_at bytes
      value ← string_at key.1
      Ok (put key.0 value.0, at, value.1))
    else if tag == 5 then (do
      key ← key_at bytes
      Ok (delete key.0, at, key.1))
    else if tag == 6 then (do
      id ← number_at w64 bytes
      status ← status_at id.1
      Ok (mark id.0 status.0, at, status.1))
    else Err fault.BadTag

unfoldable pub change_at : ℕ → ℕ → List ℕ → Result (Change EntryIndex × ℕ × List ℕ) RecordFault
change_at limit at [] = Err fault.ItemsCutShort
change_at limit at (tag ∷ rest) = change_behind tag limit at rest

unfoldable pub item_at : ℕ → ℕ → List ℕ → Result (Item EntryIndex × ℕ × List ℕ) RecordFault
item_at limit at bytes = do
  group ← number_at w64 bytes
  change ← change_at limit at group.1
  Ok (record { group = group.0; change = change.0 }, change.1, change.2)

unfoldable pub items_at : ℕ → ℕ → ℕ → List ℕ → Result (List (Item EntryIndex) × ℕ × List ℕ) RecordFault
items_at zero limit at bytes = Ok ([], at, bytes)
items_at (suc n) limit at bytes = do
  first ← item_at limit at bytes
  others ← items_at n limit first.1 first.2
  Ok (first.0 ∷ others.0, others.1, others.2)

-- all of the bytes between the block and the checksum
unfoldable pub body_at : ℕ → List ℕ → Result (List (Item EntryIndex)) RecordFault
body_at limit bytes = do
  count ← number_at w32 bytes
  items ← items_at count.0 limit 0 count.1
  if not (length items.2 == 0) then Err fault.TrailingBytes
      else if not (items.1 == limit) then Err fault.EntriesLength
      else Ok items.0

-- ---- records

-- bytes behind which their checksum stands, signed for a file
unfoldable pub unsealed : RecordFault → Option ℕ → List ℕ → Result (List ℕ) RecordFault
unsealed wrong signature bytes =
    let body = take (length bytes - 4) bytes in
    if from_be_bytes w32 (drop (length bytes - 4) bytes) == signed signature (crc32_of body) then Ok body else Err wrong

-- the whole length and where the items begin, by the first eight bytes alone. Zero, which is no length, shows in four.
unfoldable pub head_at : List ℕ → Result (ℕ × ℕ) RecordFault
head_at bytes = do
  len ← number_or fault.CutShort w32 bytes
  if len.0 == 0 then Err fault.BadLength else do
    offset ← number_or fault.CutShort w32 len.1
    if nat_lt len.0 16 || nat_lt 33554432 len.0 then Err fault.BadLength
        else if nat_lt len.0 (offset.0 + 8) || not (offset.0 == 8 || not (nat_lt offset.0 12)) then Err fault.BadOffset
        else Ok (len.0, offset.0)

-- the whole length alone
abbrev pub len_at : List ℕ → Result ℕ RecordFault
len_at bytes = head_at bytes >>= λ head. Ok head.0

-- the same where the bytes hold the whole record
unfoldable pub header_at : List ℕ → Result (ℕ × ℕ) RecordFault
header_at bytes = do
  head ← head_at bytes
  if nat_lt (length bytes) head.0 then Err fault.CutShort else Ok head

-- the entries' bytes in the block before the items
unfoldable pub block_at : ℕ → List ℕ → Result (List ℕ) RecordFault
block_at offset bytes = if offset == 8 then Ok [] else unsealed fault.EntriesChecksum None (take (offset - 8) (drop 8 bytes))

-- there is a block of entries exactly where an item holds entries
unfoldable pub agrees : ℕ → List (Item EntryIndex) → Bool
agrees offset items = if offset == 8 then not (list_any holds_entries items) else list_any holds_entries items

-- the record at the front: its items, its entries' bytes, and its length
unfoldable pub record_at : Option ℕ → List ℕ → Result (List (Item EntryIndex) × List ℕ × ℕ) RecordFault
record_at signature bytes = do
  header ← header_at bytes
  body ← unsealed fault.ItemsChecksum signature (take (header.0 - header.1) (drop header.1 bytes))
  items ← body_at (header.1 - 12) body
  if not (agrees header.1 items) then Err fault.EntriesLength else do
    block ← block_at header.1 bytes
    Ok (items, block, header.0)

-- what reading answers where the record of these items stands at the front, unless memory runs out
abbrev pub Finds : Result Record RecordError → List (Item (List ℕ)) → ℕ → Type 0
Finds (Ok r) items len =
    (with_bytes r.entries.now (items_of r.batch.items.items) ≡ items) × (r.len ≡ len)
    × (items_of r.batch.items.items ≡ placed 0 items) × (r.entries.now ≡ block_of items)
Finds (Err errors.Memory) items len = Unit {0}
Finds (Err errors.TooLong) items len = ⊥
Finds (Err (errors.Corruption f)) items len = ⊥

-- one of the checksums is wrong, unless memory runs out
abbrev pub FailsByChecksum : RecordError → Type 0
FailsByChecksum errors.Memory = Unit {0}
FailsByChecksum errors.TooLong = ⊥
FailsByChecksum (errors.Corruption f) = (f ≡ fault.ItemsChecksum) ⊎ (f ≡ fault.EntriesChecksum)

-- a block of entries that is read alone
unfoldable pub entries_block_at : List ℕ → Result (List ℕ) RecordFault
entries_block_at bytes = if nat_lt (length bytes) 4 then Err fault.CutShort else unsealed fault.EntriesChecksum None bytes
