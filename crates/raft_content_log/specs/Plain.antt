-- What a log in memory has: where its entries lie, and the block of each batch's entries.
use Rattle.std.specs.Prelude.{◌≡◌, ℕ, Bool, false, List, [], ◌++◌, Option, Some, None, option_map, slice_get, Vec}
use Rattle.std.specs.declared.alloc.Global.{Global}
use Rattle.raft_log_records.specs.declared.file_id.FileBlockHandle.{FileBlockHandle}
use Rattle.raft_log_records.specs.declared.item.EntryIndex.{EntryIndex}
use Rattle.raft_log_records.specs.Item.{entry_bytes}
use Rattle.raft_log_memtables.specs.declared.memtables.MemTables.{MemTables}
use Rattle.raft_log_memtables.specs.Content.{Content}
use Rattle.raft_log_memtables.specs.ContentLaws.{content_map}
use Rattle.raft_log_memtables.specs.MemTables.{content_in}

-- the bytes of a block, none where there is no block
abbrev pub bytes_of_block : Option (Vec ℕ Global) → List ℕ
bytes_of_block None = []
bytes_of_block (Some block) = block.items

-- an entry's bytes in its block, none where it is in no block
abbrev pub bytes_placed : List (Vec ℕ Global) → EntryIndex → Option FileBlockHandle → List ℕ
bytes_placed blocks e None = []
bytes_placed blocks e (Some handle) = entry_bytes (bytes_of_block (slice_get blocks handle.id.seq)) e

abbrev pub bytes_in : List (Vec ℕ Global) → EntryIndex → List ℕ
bytes_in blocks e = bytes_placed blocks e e.entries

-- the content, with entries as their bytes
abbrev pub seen_in : List (Vec ℕ Global) → MemTables → Content (List ℕ)
seen_in blocks tables = content_map (bytes_in blocks) (content_in tables)

-- unless the log is lost, no entry lies in a block that is still to come
abbrev pub LiesInBlocks : List (Vec ℕ Global) → MemTables → Bool → Type 0
LiesInBlocks blocks tables is_lost =
    is_lost ≡ false → (group index : ℕ) (more : List (Vec ℕ Global))
    → option_map (bytes_in (blocks ++ more)) ((content_in tables group).entry index) ≡ option_map (bytes_in blocks) ((content_in tables group).entry index)
