-- What a log file reads as: the batches from its header on, and where and why they end.
use Rattle.std.specs.Prelude.{ℕ, zero, suc, ◌+◌, List, [], ◌∷◌, length, drop, map, Option, Some, None, Result, Ok, Err, ◌==◌, if◌then◌else◌}
use Rattle.raft_log_records.specs.declared.item.EntryIndex.{EntryIndex}
use Rattle.raft_log_records.specs.declared.error.RecordFault.{RecordFault}
use Rattle.raft_log_records.specs.declared.file_id.FileId.{FileId}
use Rattle.raft_log_records.specs.Item.{Item, with_bytes}
use Rattle.raft_log_records.specs.Reading.{record_at}
use Rattle.raft_log_records.specs.Signature.{signature_of}
use Rattle.raft_log_disk.specs.declared.format.LogFileFormat.{LogFileFormat}
use Rattle.raft_log_disk.specs.declared.format.HeaderFault.{HeaderFault}
use Rattle.raft_log_disk.specs.Format.{header_at, header_len}
use Rattle.raft_log_disk.specs.Chance.{padding}

-- a batch in a file: where its record begins, the record's length, the items with their entries' places in the block, and the block's entries
pub record FileBatch : Type 0 where
  pub at : ℕ
  pub len : ℕ
  pub items : List (Item EntryIndex)
  pub entries : List ℕ

-- the batches from a place on, the place at which no record stands, and the fault there. At the file's end there is none
pub record Reading : Type 0 where
  pub batches : List FileBatch
  pub to : ℕ
  pub fault : Option RecordFault

-- nothing is read from this place on
abbrev pub stopped : ℕ → Option RecordFault → Reading
stopped to fault = record { batches = []; to = to; fault = fault }

-- a batch, and what is read behind it
abbrev pub with_batch : FileBatch → Reading → Reading
with_batch batch rest = record { batches = batch ∷ rest.batches; to = rest.to; fault = rest.fault }

-- the batch of a record that was read at a place
abbrev pub batch_at : ℕ → List (Item EntryIndex) × List ℕ × ℕ → FileBatch
batch_at at read = record { at = at; len = read.2; items = read.0; entries = read.1 }

-- what is made of a record, or of the fault there
abbrev pub read_or : {X E R : Type 0} → (X → R) → (E → R) → Result X E → R
read_or found wrong (Ok x) = found x
read_or found wrong (Err e) = wrong e

-- in so many steps at most, what the bytes of a file from a place on read as: records, one after the other. Where none
-- stands, padding up to the next multiple of the alignment is skipped
unfoldable pub read_steps : ℕ → Option ℕ → ℕ → ℕ → List ℕ → Reading
read_steps alignment signature zero at bytes = stopped at None
read_steps alignment signature (suc k) at bytes =
    if length bytes == 0 then stopped at None
    else read_or
    (λ read. with_batch (batch_at at read) (read_steps alignment signature k (at + read.2) (drop read.2 bytes)))
    (λ fault. if padding alignment at bytes == 0 then stopped at (Some fault)
    else read_steps alignment signature k (at + padding alignment at bytes) (drop (padding alignment at bytes) bytes))
    (record_at signature bytes)

-- what the bytes of a file from a place on read as: each step takes a byte at least
abbrev pub read_from : ℕ → Option ℕ → ℕ → List ℕ → Reading
read_from alignment signature at bytes = read_steps alignment signature (length bytes) at bytes

-- what a file of this name and format reads as from a place on
abbrev pub read_behind : FileId → LogFileFormat → ℕ → List ℕ → Reading
read_behind id format at bytes = read_from format.alignment (signature_of format.version id.seq) at (drop at bytes)

-- what a file reads as, by the header at its front
abbrev pub file_reading : FileId → List ℕ → Result Reading HeaderFault
file_reading id bytes = read_or (λ format. Ok (read_behind id format (header_len format.version) bytes)) (λ fault. Err fault) (header_at bytes)

-- what batches say, without where they stand
abbrev pub contents : List FileBatch → List (List (Item (List ℕ)))
contents batches = map (λ b. with_bytes b.entries b.items) batches
