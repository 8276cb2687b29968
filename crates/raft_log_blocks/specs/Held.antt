-- Batches in files of both queues, and tables of where their entries lie.
use Rattle.std.specs.Prelude.{◌≡◌, ◌⊎◌, ℕ, ◌+◌, Bool, true, false, List, [], ◌∷◌, ◌++◌, length, map, take, drop, Some, None}
use Rattle.raft_log_records.specs.declared.block.EntriesBlock.{EntriesBlock}
use Rattle.raft_log_records.specs.declared.file_id.FileBlockHandle.{FileBlockHandle}
use Rattle.raft_log_records.specs.declared.item.EntryIndex.{EntryIndex}
use Rattle.raft_log_records.specs.Item.{entry_bytes}
use Rattle.raft_log_records.specs.Spelling.{block_of, sealed}
use Rattle.raft_log_disk.specs.Disk.{Disk, IsIn}
use Rattle.raft_log_file.specs.Laws.{Batch}
use Rattle.raft_log_pipe.specs.declared.file.File.{File}
use Rattle.raft_log_pipe.specs.declared.pipe.SinglePipe.{SinglePipe}
use Rattle.raft_log_pipe.specs.Blocks.{IsBlockOf, files_of, record_in}
use Rattle.raft_log_pipe.specs.Pipe.{Numbered, Holds}
use Rattle.raft_log_pipes.specs.declared.pipes.DualPipes.{DualPipes}
use Rattle.raft_log_pipes.specs.Pipes.{ArePipes}
use Rattle.raft_log_memtables.specs.declared.memtables.MemTables.{MemTables}
use Rattle.raft_log_memtables.specs.Content.{Content}
use Rattle.raft_log_memtables.specs.ContentLaws.{content_map}
use Rattle.raft_log_memtables.specs.MemTables.{content_in}
use Rattle.raft_log_memtables.specs.Replay.{content_of}
use Rattle.raft_log_blocks.specs.Placed.{bytes_on}

-- the content of batches, in their order
abbrev pub content_of_batches : Numbered → Content (List ℕ)
content_of_batches bs = content_of (map (λ b. b.1) bs)

-- what calls answer: the tables, with the bytes of entries as they stand on the disk
abbrev pub seen_on : Disk → DualPipes → MemTables → Content (List ℕ)
seen_on d p tables = content_map (bytes_on d p) (content_in tables)

-- ---- what ties the tables to the batches

-- the block of a record's entries, in the file of the record
abbrev pub IsPlace : FileBlockHandle → EntriesBlock → FileBlockHandle → Type 0
IsPlace written block place = (place.id ≡ written.id) × (place.offset ≡ written.offset + block.offset) × (place.len ≡ block.len)

-- the entry lies in the block of one of these batches, in a file of the pipe, and has these bytes there
pub record LiesIn (p : SinglePipe) (bs : Numbered) (e : EntryIndex) (bytes : List ℕ) : Type 0 where
  pub handle : FileBlockHandle
  pub file : File
  pub before : Numbered
  pub items : Batch
  pub after : Numbered
  pub place : e.entries ≡ Some handle
  pub queue : handle.id.queue ≡ p.queue
  pub among : IsIn file (files_of p)
  pub split : bs ≡ before ++ (file.seq, items) ∷ after
  pub block : IsBlockOf p.queue file before items 8 handle
  pub stands : take handle.len (drop 8 (record_in file items)) ≡ sealed None (block_of items)
  pub bytes_are : bytes ≡ entry_bytes (block_of items) e

-- each entry that lies in a batch of either queue is read as its bytes
abbrev pub ReadsEntries : DualPipes → Numbered → Numbered → (EntryIndex → List ℕ) → Type 0
ReadsEntries p rewrites appends read = (e : EntryIndex) (bytes : List ℕ) → LiesIn p.rewrite rewrites e bytes ⊎ LiesIn p.append appends e bytes → read e ≡ bytes

-- however such entries are read, the tables have the content of the rewrite queue's batches with the append queue's behind
-- them, and the lengths of its entries
pub record IsTabled (p : DualPipes) (rewrites appends : Numbered) (tables : MemTables) : Type 0 where
  pub content : (read : EntryIndex → List ℕ) → ReadsEntries p rewrites appends read → content_map read (content_in tables) ≡ content_of_batches (rewrites ++ appends)
  pub lengths : content_map (λ e. e.entry_len) (content_in tables) ≡ content_map length (content_of_batches (rewrites ++ appends))

-- entries are as long on the disk as the tables say
abbrev pub AreMeasured : Disk → DualPipes → MemTables → Type 0
AreMeasured d p tables = (group index : ℕ) (e : EntryIndex) → (content_in tables group).entry index ≡ Some e → length (bytes_on d p e) ≡ e.entry_len

-- The files of each queue have these batches: those of the rewrite queue are on the disk, and the first ones of the append
-- queue. The tables have the content of all
pub record IsHeld (d : Disk) (p : DualPipes) (tables : MemTables) (rewrites synced unsynced : Numbered) : Type 0 where
  pub pipes : ArePipes p d
  pub rewrite : Holds p.rewrite d rewrites []
  pub append : Holds p.append d synced unsynced
  pub tabled : IsTabled p rewrites (synced ++ unsynced) tables

-- the same of batches that are all on the disk
pub record IsKept (d : Disk) (p : DualPipes) (tables : MemTables) (rewrites appends : Numbered) : Type 0 where
  pub pipes : ArePipes p d
  pub rewrite : Holds p.rewrite d rewrites []
  pub append : Holds p.append d appends []
  pub tabled : IsTabled p rewrites appends tables

-- so it is unless a write has failed. All batches are on the disk unless a write wasn't synced
pub record HoldsBatches (d : Disk) (p : DualPipes) (tables : MemTables) (wrote_unsynced : Bool) : Type 0 where
  pub rewrites : Numbered
  pub synced : Numbered
  pub unsynced : Numbered
  pub held : IsHeld d p tables rewrites synced unsynced
  pub none : wrote_unsynced ≡ false → unsynced ≡ []

-- ---- what an append makes of batches that are not on the disk

-- so many of these batches came behind the synced ones onto the disk, and all where that is asked for
pub record HoldsMore (p : SinglePipe) (d : Disk) (all : Bool) (synced unsynced : Numbered) : Type 0 where
  pub count : ℕ
  pub holds : Holds p d (synced ++ take count unsynced) (drop count unsynced)
  pub none : all ≡ true → drop count unsynced ≡ []

-- ---- blocks of batches

-- Each block of a batch of either queue is read as it was written
pub record ReadsBlocks (p : DualPipes) (rewrites appends : Numbered) (read : FileBlockHandle → List ℕ) : Type 0 where
  pub rewrite : (e : EntryIndex) (bytes : List ℕ) → (lies : LiesIn p.rewrite rewrites e bytes) → read lies.handle ≡ block_of lies.items
  pub append : (e : EntryIndex) (bytes : List ℕ) → (lies : LiesIn p.append appends e bytes) → read lies.handle ≡ block_of lies.items
