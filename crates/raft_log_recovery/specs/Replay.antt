-- What a machine is given of log files: their batches in order, each with its file and its block.
use Rattle.std.specs.Prelude.{◌≡◌, ◌≤◌, ◌+◌, ℕ, List, [], ◌∷◌, true, false, None}
use Rattle.std.specs.List.{list_any}
use Rattle.raft_log_records.specs.declared.item.EntryIndex.{EntryIndex}
use Rattle.raft_log_records.specs.declared.file_id.FileId.{FileId}
use Rattle.raft_log_records.specs.declared.file_id.FileBlockHandle.{FileBlockHandle}
use Rattle.raft_log_records.specs.Item.{Item}
use Rattle.raft_log_records.specs.Block.{bytes_at}
use Rattle.raft_log_records.specs.Spelling.{holds_entries, sealed}
use Rattle.raft_log_records.specs.Reading.{AreBytes}
use Rattle.raft_log_file.specs.Reading.{FileBatch}

-- a batch as a machine gets it: its items, and the block of its entries
pub record Placed : Type 0 where
  pub handle : FileBlockHandle
  pub items : List (Item EntryIndex)

-- it is this batch of the file, and the block lies within its record: its entries with their checksum stand there, if an
-- item holds any
pub record IsPlaced (id : FileId) (bytes : List ℕ) (batch : FileBatch) (placed : Placed) : Type 0 where
  pub items : placed.items ≡ batch.items
  pub file : placed.handle.id ≡ id
  pub offset : placed.handle.offset ≡ batch.at + 8
  pub within : placed.handle.len + 8 ≤ batch.len
  pub stands : AreBytes bytes → list_any holds_entries batch.items ≡ true → bytes_at placed.handle.offset placed.handle.len bytes ≡ sealed None batch.entries
  pub none : list_any holds_entries batch.items ≡ false → placed.handle.len ≡ 0

-- batches of a file, one after the other
abbrev pub ArePlaced : FileId → List ℕ → List FileBatch → List Placed → Type 0
ArePlaced id bytes [] all = all ≡ []
ArePlaced id bytes (batch ∷ batches) all = (placed : Placed) × (rest : List Placed) × (all ≡ placed ∷ rest) × IsPlaced id bytes batch placed × ArePlaced id bytes batches rest
