-- Where the block of entries stands.
use Rattle.std.specs.Prelude.{◌≡◌, ℕ, true, false, List, Option, Some, None, take, drop}
use Rattle.std.specs.List.{list_any}
use Rattle.raft_log_records.specs.declared.block.EntriesBlock.{EntriesBlock}
use Rattle.raft_log_records.specs.Item.{Item}
use Rattle.raft_log_records.specs.Spelling.{holds_entries, sealed}

-- the bytes from a place on
abbrev pub bytes_at : ℕ → ℕ → List ℕ → List ℕ
bytes_at offset len bytes = take len (drop offset bytes)

-- in the bytes of a record of these items, these entries stand there with their checksum. Without entries there is no block
abbrev pub StandsIn : {E : Type 0} → List ℕ → List (Item E) → List ℕ → Option EntriesBlock → Type 0
StandsIn bytes items entries (Some block) = (list_any holds_entries items ≡ true) × (block.offset ≡ 8) × (bytes_at block.offset block.len bytes ≡ sealed None entries)
StandsIn bytes items entries None = list_any holds_entries items ≡ false
