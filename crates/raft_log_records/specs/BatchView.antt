-- How the program's parts of a batch are seen as a batch.
use Rattle.std.specs.Prelude.{◌≡◌, ℕ, List}
use Rattle.raft_log_records.specs.Checksum.{crc32_of}
use Rattle.raft_log_records.specs.declared.batch.BufState.{BufState}
use Rattle.raft_log_records.specs.declared.batch.BufState.TheVariants as buf
use Rattle.raft_log_records.specs.declared.batch.LogBatch.TheInside.{Inside}
use Rattle.raft_log_records.specs.Item.{items_of, with_bytes, with_lengths}
use Rattle.raft_log_records.specs.Spelling.{spell_items}
use Rattle.raft_log_records.specs.Batch.{Batch, Writing, IsSound, record_of}
use Rattle.raft_log_records.specs.Batch.Writing.{open_still, written}

abbrev pub writing_of : BufState → Writing
writing_of buf.Open = open_still
writing_of (buf.Encoded checksum signature) = written signature

abbrev pub batch_of : Inside → Batch
batch_of a = record { items = with_bytes a.entries.items (items_of a.items.items); writing = writing_of a.buf_state }

-- the checksum that is kept is that of the items
abbrev pub KeepsChecksum : BufState → List ℕ → Type 0
KeepsChecksum buf.Open body = Unit {0}
KeepsChecksum (buf.Encoded checksum signature) body = checksum ≡ crc32_of body

pub record IsWritten (a : Inside) : Type 0 where
  pub sound : IsSound a.items.items a.entries.items a.holds_entries a.items_len
  pub encoded : a.encoded.items ≡ record_of (with_bytes a.entries.items (items_of a.items.items)) (writing_of a.buf_state)
  pub checksum : KeepsChecksum a.buf_state (spell_items (with_lengths (items_of a.items.items)))
