-- A queue whose files were recovered, opened as a pipe: it holds just the batches that a machine has replayed.
use Rattle.std.specs.Prelude.{◌≡◌, ◌≢◌, ℕ, List, [], ◌∷◌, ◌++◌, take, drop, true, false, None}
use Rattle.std.specs.List.{list_any}
use Rattle.raft_log_records.specs.declared.file_id.LogQueue.{LogQueue}
use Rattle.raft_log_records.specs.Item.{with_bytes, with_lengths}
use Rattle.raft_log_records.specs.Spelling.{block_of, holds_entries, sealed, lengths}
use Rattle.raft_log_disk.specs.Text.{Text}
use Rattle.raft_log_disk.specs.Disk.{Disk, IsIn}
use Rattle.raft_log_file.specs.Laws.{Batch}
use Rattle.raft_log_file.specs.Reading.{contents}
use Rattle.raft_log_pipe.specs.declared.file.File.{File}
use Rattle.raft_log_pipe.specs.declared.pipe.SinglePipe.{SinglePipe}
use Rattle.raft_log_pipe.specs.Blocks.{IsBlockOf, files_of, record_in}
use Rattle.raft_log_pipe.specs.Pipe.{Holds, Numbered, id_of, numbered}
use Rattle.raft_log_recovery.specs.declared.scan.FileName.{FileName}
use Rattle.raft_log_recovery.specs.Queue.{AreOpen, IsFileOf}
use Rattle.raft_log_recovery.specs.Repair.{batches_in, format_in}
use Rattle.raft_log_recovery.specs.Replay.{Placed}

-- the header of one of the files says an alignment
abbrev pub AnyAligned : List Text → LogQueue → List FileName → Disk → Type 0
AnyAligned directories queue names d =
    (name : FileName) × (fd : ℕ) × IsIn name names × IsFileOf d directories queue name fd × ((format_in (d.file fd).bytes).alignment ≢ 0)

-- what the batches of a file say
abbrev pub said_in : LogQueue → Disk → File → List Batch
said_in queue d f = contents (batches_in (id_of queue f.seq) (d.file f.handle.0).bytes)

-- the batches of files, with the numbers of the files
abbrev pub batches_of : LogQueue → Disk → List File → Numbered
batches_of queue d [] = []
batches_of queue d (f ∷ fs) = numbered f.seq (said_in queue d f) ++ batches_of queue d fs

-- A machine got this batch, which comes behind others: its items and the lengths of their entries, with the block behind the first bytes of its record. If an
-- item holds entries they stand there with their checksum
pub record IsGot (queue : LogQueue) (f : File) (before : Numbered) (items : Batch) (placed : Placed) : Type 0 where
  pub items_are : with_bytes (block_of items) placed.items ≡ items
  pub lengths_are : with_lengths placed.items ≡ lengths items
  pub id : placed.handle.id ≡ id_of queue f.seq
  pub block : IsBlockOf queue f before items 8 placed.handle
  pub stands : list_any holds_entries items ≡ true → take placed.handle.len (drop 8 (record_in f items)) ≡ sealed None (block_of items)
  pub none : list_any holds_entries items ≡ false → placed.handle.len ≡ 0

-- batches of a file, one after the other
abbrev pub AreGot : LogQueue → File → Numbered → List Batch → List Placed → Type 0
AreGot queue f before [] all = all ≡ []
AreGot queue f before (k ∷ ks) all = (placed : Placed) × (rest : List Placed) × (all ≡ placed ∷ rest) × IsGot queue f before k placed × AreGot queue f (before ++ (f.seq, k) ∷ []) ks rest

-- the batches of files, one file after the other
abbrev pub AreAllGot : LogQueue → Disk → Numbered → List File → List Placed → Type 0
AreAllGot queue d before [] all = all ≡ []
AreAllGot queue d before (f ∷ fs) all =
    (first : List Placed) × (rest : List Placed) × (all ≡ first ++ rest) × AreGot queue f before (said_in queue d f) first
    × AreAllGot queue d (before ++ numbered f.seq (said_in queue d f)) fs rest

-- the pipe is of the files of these names, and holds the batches that they read as
pub record IsPipeOf (directories : List Text) (queue : LogQueue) (names : List FileName) (old new : Disk) (fs : List File) (p : SinglePipe) : Type 0 where
  pub opened : AreOpen old directories queue names fs
  pub among : (f : File) → IsIn f fs → IsIn f (files_of p)
  pub holds : Holds p new (batches_of queue old fs) []

-- and a machine has got all of them, in their order
pub record IsPipeWith (directories : List Text) (queue : LogQueue) (names : List FileName) (old new : Disk) (p : SinglePipe) (all : List Placed) : Type 0 where
  pub files : List File
  pub pipe : IsPipeOf directories queue names old new files p
  pub got : AreAllGot queue old [] files all
