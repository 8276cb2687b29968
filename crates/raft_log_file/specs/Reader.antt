-- What the readers of a file answer.
use Rattle.std.specs.Prelude.{◌≡◌, ℕ, ◌+◌, ◌-◌, ◌≤◌, List, [], true, false, length, take, drop, Option, Some, None, Result, Ok, Err}
use Rattle.raft_log_records.specs.declared.item.EntryIndex.{EntryIndex}
use Rattle.raft_log_records.specs.declared.error.RecordFault.{RecordFault}
use Rattle.raft_log_records.specs.declared.error.RecordError.{RecordError}
use Rattle.raft_log_records.specs.declared.error.RecordError.TheVariants as wrong
use Rattle.raft_log_records.specs.Item.{Item, items_of}
use Rattle.raft_log_records.specs.Spelling.{sealed, holds_entries}
use Rattle.std.specs.List.{list_any}
use Rattle.raft_log_records.specs.declared.block.EntriesBlock.{EntriesBlock}
use Rattle.raft_log_records.specs.Block.{bytes_at}
use Rattle.raft_log_records.specs.Reading.{AreBytes, record_at}
use Rattle.raft_log_disk.specs.Disk.{Disk}
use Rattle.raft_log_disk.specs.Cause.{Meter}
use Rattle.raft_log_file.specs.Errors.{IsNextFault}
use Rattle.raft_log_files.specs.declared.error.Error.{Error}
use Rattle.raft_log_files.specs.declared.error.Error.TheVariants as error
use Rattle.raft_log_files.specs.declared.error.CorruptionFault.TheVariants as fault
use Rattle.raft_log_file.specs.declared.batches.ReadBatch.{ReadBatch}
use Rattle.raft_log_file.specs.declared.batches.OpenFile.{OpenFile}
use Rattle.raft_log_file.specs.declared.batches.LogItemBatchFileReader.{LogItemBatchFileReader}
use Rattle.raft_log_file.specs.Reading.{FileBatch, Reading, stopped, with_batch, read_behind}

-- the bytes of an open file
abbrev pub bytes_in : Disk → OpenFile → List ℕ
bytes_in d file = (d.file file.fd.0).bytes

-- the buffer holds bytes of the file from a place on that is not past the one that is read next
pub record HoldsBytes (bytes buffer : List ℕ) (buffer_offset valid_offset size : ℕ) : Type 0 where
  pub size_is : size ≡ length bytes
  pub valid : valid_offset ≤ size
  pub behind : buffer_offset ≤ valid_offset
  pub within : buffer_offset + length buffer ≤ size
  pub held : buffer ≡ take (length buffer) (drop buffer_offset bytes)

-- what the reader holds of its file stands there
abbrev pub IsReader : LogItemBatchFileReader → Disk → Type 0
IsReader r d = elim r.file [
  | None ↦ Unit {0}
  | Some file ↦ HoldsBytes (bytes_in d file) r.buffer.items r.buffer_offset r.valid_offset r.size
]

-- the bytes of the file that is read
abbrev pub held_bytes : LogItemBatchFileReader → Disk → List ℕ
held_bytes r d = elim r.file [
  | None ↦ []
  | Some file ↦ bytes_in d file
]

-- what the reader has left to read
abbrev pub left : LogItemBatchFileReader → Disk → Reading
left r d = elim r.file [
  | None ↦ stopped r.valid_offset None
  | Some file ↦ read_behind file.id file.format r.valid_offset (bytes_in d file)
]

-- the batch that was read, of these entries
abbrev pub batch_of : ReadBatch → List ℕ → FileBatch
batch_of b entries = record { at = b.offset; len = b.len; items = items_of b.batch.items.items; entries = entries }

-- the next bytes, as the buffer holds them
abbrev pub Front : ℕ → List ℕ → List ℕ → ℕ → ℕ → Type 0
Front need bytes buffer buffer_offset valid_offset = take need (drop (valid_offset - buffer_offset) buffer) ≡ take need (drop valid_offset bytes)

-- the length of a block, if there is one
abbrev pub block_len : Option EntriesBlock → ℕ
block_len None = 0
block_len (Some block) = block.len

-- the block of a batch behind the first bytes of its record: its entries with their checksum stand there, if an item holds any
pub record IsBlock (b : ReadBatch) (entries : List ℕ) : Type 0 where
  pub offset : b.block.offset ≡ b.offset + 8
  pub within : b.block.len + 8 ≤ b.len
  pub stands : (signature : Option ℕ) (bytes : List ℕ) → AreBytes bytes → record_at signature bytes ≡ Ok (items_of b.batch.items.items, entries, b.len)
      → list_any holds_entries (items_of b.batch.items.items) ≡ true → bytes_at 8 b.block.len bytes ≡ sealed None entries
  pub none : list_any holds_entries (items_of b.batch.items.items) ≡ false → b.block.len ≡ 0

-- what reading a record at a place answers
abbrev pub Finds : Result ReadBatch RecordError → Result (List (Item EntryIndex) × List ℕ × ℕ) RecordFault → ℕ → Type 0
Finds (Ok b) read offset = (entries : List ℕ) × (read ≡ Ok (items_of b.batch.items.items, entries, b.len)) × (b.offset ≡ offset) × IsBlock b entries
Finds (Err wrong.Memory) read offset = Unit {0}
Finds (Err wrong.TooLong) read offset = ⊥
Finds (Err (wrong.Corruption f)) read offset = read ≡ Err f

-- the same of a record that is read from its file
abbrev pub FindsHere : Result ReadBatch RecordFault → Result (List (Item EntryIndex) × List ℕ × ℕ) RecordFault → ℕ → Type 0
FindsHere (Ok b) read offset = (entries : List ℕ) × (read ≡ Ok (items_of b.batch.items.items, entries, b.len)) × (b.offset ≡ offset) × IsBlock b entries
FindsHere (Err f) read offset = read ≡ Err f

-- the block of a batch in its file, within its record: its entries with their checksum, if an item holds any
pub record IsFileBlock (bytes : List ℕ) (b : ReadBatch) (entries : List ℕ) : Type 0 where
  pub offset : b.block.offset ≡ b.offset + 8
  pub within : b.block.len + 8 ≤ b.len
  pub stands : AreBytes bytes → list_any holds_entries (items_of b.batch.items.items) ≡ true → bytes_at b.block.offset b.block.len bytes ≡ sealed None entries
  pub none : list_any holds_entries (items_of b.batch.items.items) ≡ false → b.block.len ≡ 0

-- what reading one batch answers, of a reader that had this left before and has that left now
abbrev pub Next : Result (Option ReadBatch) Error → List ℕ → Reading → Reading → Type 0
Next (Ok (Some b)) bytes before after = (entries : List ℕ) × (before ≡ with_batch (batch_of b entries) after) × IsFileBlock bytes b entries
Next (Ok None) bytes before after = (before.batches ≡ []) × (before.fault ≡ None) × (after ≡ before)
Next (Err (error.Corruption (fault.Record f))) bytes before after = (before.batches ≡ []) × (before.fault ≡ Some f) × (after ≡ before)
Next (Err (error.Corruption (fault.Header f))) bytes before after = ⊥
Next (Err e) bytes before after = after ≡ before

-- the reader stands where reading stops, once it answers that
abbrev pub Stops : Result (Option ReadBatch) Error → ℕ → Reading → Type 0
Stops (Ok (Some b)) valid_offset before = valid_offset ≡ b.offset + b.len
Stops (Ok None) valid_offset before = valid_offset ≡ before.to
Stops (Err (error.Corruption f)) valid_offset before = valid_offset ≡ before.to
Stops (Err e) valid_offset before = Unit {0}

-- a reader of a file refuses by what its file gives, one of no file never
abbrev pub FailsNext : LogItemBatchFileReader → Disk → Meter → Error → Type 0
FailsNext r d meter e = elim r.file [
  | None ↦ ⊥
  | Some file ↦ IsNextFault d meter file.fd.0 e
]
