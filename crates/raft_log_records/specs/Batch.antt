-- A batch, as its callers see it.
use Rattle.std.specs.Prelude.{◌≡◌, ◌≢◌, ◌<◌, ◌≤◌, ◌+◌, ◌⊎◌, ℕ, Bool, true, false, List, [], ◌∷◌, ◌++◌, length, map, take, Option}
use Rattle.std.specs.Prelude.{None, Result, Ok, Err}
use Rattle.std.specs.Prelude.{Vec}
use Rattle.std.specs.declared.alloc.Global.{Global}
use Rattle.std.specs.List.{flat_map, AllByRecursion, list_any}
use Rattle.raft_log_records.specs.declared.error.RecordError.{RecordError}
use Rattle.raft_log_records.specs.declared.error.RecordError.TheVariants as error
use Rattle.raft_log_records.specs.declared.item.EntryIndex.{EntryIndex}
use Rattle.raft_log_records.specs.declared.item.LogItem.{LogItem}
use Rattle.raft_log_records.specs.Item.Change.{entries}
use Rattle.raft_log_records.specs.Item.{Item, item_of, items_of, with_bytes, with_lengths}
use Rattle.raft_log_records.specs.Places.{placed}
use Rattle.raft_log_records.specs.Spelling.{IsItem, FitsBytes, entries_of, holds_entries, block_part, spell_item, spell_record, record_len, AreItems}

-- whether it is open, or written as a record that is signed so
pub data Writing : Type 0 where
  open_still : Writing
  written : Option ℕ → Writing

-- its items with their entries' bytes, and how it is written
pub record Batch : Type 0 where
  pub items : List (Item (List ℕ))
  pub writing : Writing

-- the bytes that it is written as: none while it is open
abbrev pub record_of : List (Item (List ℕ)) → Writing → List ℕ
record_of items open_still = []
record_of items (written signature) = spell_record signature items

abbrev pub encoded_of : Batch → List ℕ
encoded_of batch = record_of batch.items batch.writing

abbrev pub nothing_logged : Batch
nothing_logged = record { items = []; writing = open_still }

-- the batch written as a record. Without items it is none
abbrev pub populated : List (Item (List ℕ)) → Batch
populated [] = nothing_logged
populated (item ∷ items) = record { items = item ∷ items; writing = written None }

-- the same record, signed for another file
abbrev pub signed_again : Option ℕ → Writing → Writing
signed_again signature open_still = open_still
signed_again signature (written other) = written signature

-- the batch with one more item
abbrev pub logged : Batch → Item (List ℕ) → Batch
logged batch item = record { items = batch.items ++ item ∷ []; writing = open_still }

-- What adding an item does. It is refused where the record would be too long, and for want of memory, and the batch is
-- then as before.
abbrev pub Logs : Batch → Item (List ℕ) → Batch → Result Unit RecordError → Type 0
Logs old item new (Ok _) = (new ≡ logged old item) × (record_len (old.items ++ item ∷ []) ≤ 33554432)
Logs old item new (Err error.Memory) = (new ≡ old) × (record_len (old.items ++ item ∷ []) ≤ 33554432)
Logs old item new (Err error.TooLong) = (new ≡ old) × (33554432 < record_len (old.items ++ item ∷ []))
Logs old item new (Err (error.Corruption fault)) = ⊥

-- entries' bytes without where they lie in memory
abbrev pub payloads : List (Vec ℕ Global) → List (List ℕ)
payloads vs = map (λ v. v.items) vs

-- all bytes, one after the other
abbrev pub joined : List (List ℕ) → List ℕ
joined parts = flat_map (λ bytes. bytes) parts

-- entries with their indexes, from a first one on
abbrev pub numbered : {E : Type 0} → ℕ → List E → List (ℕ × E)
numbered index [] = []
numbered index (e ∷ es) = (index, e) ∷ numbered (index + 1) es

-- the item of a group's entries
abbrev pub run_of : ℕ → ℕ → List (List ℕ) → Item (List ℕ)
run_of group first parts = record { group = group; change = entries (numbered first parts) }

-- What adding entries of a group does. None change nothing.
abbrev pub LogsEntries : Batch → ℕ → ℕ → List (List ℕ) → Batch → Result Unit RecordError → Type 0
LogsEntries old group first [] new result = (new ≡ old) × (result ≡ Ok tt)
LogsEntries old group first (e ∷ es) new result = Logs old (run_of group first (e ∷ es)) new result

-- What adding an item does whose messages are written first: want of memory may come before all else. `fit` says whether
-- each message is within the limits of its type; where one isn't, the item is refused.
abbrev pub LogsWritten : Batch → Item (List ℕ) → Bool → Batch → Result Unit RecordError → Type 0
LogsWritten old item fit new (Ok _) = (fit ≡ true) × (new ≡ logged old item) × (record_len (old.items ++ item ∷ []) ≤ 33554432)
LogsWritten old item fit new (Err error.Memory) = new ≡ old
LogsWritten old item fit new (Err error.TooLong) = (new ≡ old) × ((fit ≡ false) ⊎ (33554432 < record_len (old.items ++ item ∷ [])))
LogsWritten old item fit new (Err (error.Corruption fault)) = ⊥

-- the same for entries of a group. None change nothing.
abbrev pub LogsRun : Batch → ℕ → ℕ → List (List ℕ) → Bool → Batch → Result Unit RecordError → Type 0
LogsRun old group first [] fit new result = (new ≡ old) × (result ≡ Ok tt)
LogsRun old group first (part ∷ parts) fit new result = LogsWritten old (run_of group first (part ∷ parts)) fit new result

-- the indexes of entries follow one another
abbrev pub FollowOn : {E : Type 0} → (E → ℕ) → ℕ → List E → Type 0
FollowOn index_of next [] = Unit {0}
FollowOn index_of next (e ∷ es) = (index_of e ≡ next) × FollowOn index_of (next + 1) es

-- the first one's index
abbrev pub index_of_first : {E : Type 0} → (E → ℕ) → List E → ℕ
index_of_first index_of [] = 0
index_of_first index_of (e ∷ es) = index_of e

-- why entries are not written: want of memory, one past a limit of its type, or more bytes than a record has
abbrev pub IsWriteRefusal : Bool → ℕ → RecordError → Type 0
IsWriteRefusal fit len error.Memory = Unit {0}
IsWriteRefusal fit len error.TooLong = (fit ≡ false) ⊎ (33554432 < len)
IsWriteRefusal fit len (error.Corruption fault) = ⊥

-- ---- how the entries of the program's items lie in the block, one after the other

abbrev pub IsRunLaid : ℕ → List EntryIndex → ℕ → Type 0
IsRunLaid at [] end = at ≡ end
IsRunLaid at (e ∷ es) end = (e.entry_offset ≡ at) × IsRunLaid (at + e.entry_len) es end

abbrev pub IsLaid : ℕ → List (Item EntryIndex) → ℕ → Type 0
IsLaid at [] end = at ≡ end
IsLaid at (item ∷ items) end = (mid : ℕ) × IsRunLaid at (entries_of item.change) mid × IsLaid mid items end

-- what holds of the program's parts of a batch
pub record IsSound (items : List LogItem) (block : List ℕ) (holds : Bool) (items_len : ℕ) : Type 0 where
  pub laid : IsLaid 0 (items_of items) (length block)
  pub places : items_of items ≡ placed 0 (with_bytes block (items_of items))
  pub each : AllByRecursion IsItem (with_lengths (items_of items))
  pub fits : AllByRecursion (λ item. FitsBytes (item_of item).change) items
  pub sum : items_len ≡ length (flat_map spell_item (with_lengths (items_of items)))
  pub count : length items ≤ items_len
  pub bytes : length block ≤ 33554432
  pub entries_held : holds ≡ list_any holds_entries (items_of items)
  pub short : 16 + items_len + length (block_part holds block) ≤ 33554432

-- the record at the front of some bytes has these items and this length
pub record IsRecordAt (signature : Option ℕ) (bytes : List ℕ) (items : List (Item (List ℕ))) (len : ℕ) : Type 0 where
  pub each : AreItems items
  pub spelled : take len bytes ≡ spell_record signature items
  pub whole : len ≡ record_len items
  pub within : len ≤ length bytes

-- the record of these items at the front of some bytes, but for one byte behind its first eight
pub record IsRecordChanged (signature : Option ℕ) (items : List (Item (List ℕ))) (bytes : List ℕ) : Type 0 where
  pub front : List ℕ
  pub byte : ℕ
  pub other : ℕ
  pub back : List ℕ
  pub rest : List ℕ
  pub spelled : spell_record signature items ≡ front ++ byte ∷ back
  pub behind : 8 ≤ length front
  pub is_byte : byte < 256
  pub changed : other ≢ byte
  pub bytes_are : bytes ≡ (front ++ other ∷ back) ++ rest
