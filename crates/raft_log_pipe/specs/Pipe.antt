-- A pipe: files of one queue with rising numbers, of which the last one is written. Above it there are batches with the
-- numbers of their files, and no bytes.
use Rattle.std.specs.Prelude.{◌≡◌, ◌≢◌, ◌⊎◌, ℕ, ◌+◌, ◌-◌, ◌<◌, ◌≤◌, List, [], ◌∷◌, ◌++◌, length, map, take, Option, Some, None, String}
use Rattle.std.specs.List.{AllByRecursion}
use Rattle.std.specs.String.{string_bytes}
use Rattle.std.specs.declared.alloc.Global.{Global}
use Rattle.raft_log_records.specs.declared.file_id.FileId.{FileId}
use Rattle.raft_log_records.specs.declared.file_id.LogQueue.{LogQueue}
use Rattle.raft_log_records.specs.Batch.Writing.{written}
use Rattle.raft_log_records.specs.Batch as batch
use Rattle.raft_log_disk.specs.declared.format.LogFileFormat.{LogFileFormat}
use Rattle.raft_log_disk.specs.Text.{Text}
use Rattle.raft_log_disk.specs.Disk.{Disk, FileState, IsIn, fd_of}
use Rattle.raft_log_disk.specs.Name.{log_file_of}
use Rattle.raft_log_disk.specs.Format.{IsSpellable}
use Rattle.raft_log_disk.specs.Image.{Image, IsImage}
use Rattle.raft_log_disk.specs.Chance.{IsGenuineImage}
use Rattle.raft_log_files.specs.FileName.{IsFileSeq, log_file_name}
use Rattle.raft_log_file.specs.Laws.{Batch}
use Rattle.raft_log_file.specs.Unsynced.{ReadsAs}
use Rattle.raft_log_file.specs.Writer.{IsWriter}
use Rattle.raft_log_pipe.specs.declared.file.File.{File}
use Rattle.raft_log_pipe.specs.declared.pipe.SinglePipe.{SinglePipe}
use Rattle.raft_log_pipe.specs.Reserved.{AreReserved}
use Rattle.raft_log_pipe.specs.Stored.{IsEnded, IsStored}

-- batches with the numbers of their files
abbrev pub Numbered : Type 0
Numbered = List (ℕ × Batch)

-- the batches of one file
abbrev pub numbered : ℕ → List Batch → Numbered
numbered seq ks = map (λ k. (seq, k)) ks

-- the log file of a number
abbrev pub id_of : LogQueue → ℕ → FileId
id_of queue seq = record { queue = queue; seq = seq }

-- a format without alignment
abbrev pub IsPlain : LogFileFormat → Type 0
IsPlain format = IsSpellable format × (format.alignment ≡ 0)

-- ---- what a pipe holds

-- the file of this number on the disk has a path that says this log file
abbrev pub IsNamedSo : Disk → FileId → ℕ → Type 0
IsNamedSo d id fd = (path : List ℕ) × IsIn (path, fd) d.names × (log_file_of path ≡ Some id)

-- a file that has no bytes and no batches, and of which a crash leaves no record
pub record IsBlank (format : LogFileFormat) (ks : List Batch) (f : FileState) : Type 0 where
  pub none : ks ≡ []
  pub bytes : f.bytes ≡ []
  pub short : f.greatest ≤ 69
  pub plain : IsPlain format

-- A file that is written no more. It ends right behind the last of its batches, and all of it is on the disk: so only the last
-- file of a queue may be torn. Or it is blank, as an opening leaves a file with a broken header
pub record IsOlder (queue : LogQueue) (d : Disk) (f : File) (ks : List Batch) : Type 0 where
  pub offset : ℕ
  pub named : IsNamedSo d (id_of queue f.seq) f.handle.0
  pub stored : IsStored (id_of queue f.seq) f.format ks [] offset (d.file f.handle.0) ⊎ IsBlank f.format ks (d.file f.handle.0)
  pub ended : IsEnded offset (d.file f.handle.0)

-- the batches of such files, one file after the other
abbrev pub AreOlder : LogQueue → Disk → List File → Numbered → Type 0
AreOlder queue d [] bs = bs ≡ []
AreOlder queue d (f ∷ fs) bs = (ks : List Batch) × (rest : Numbered) × (bs ≡ numbered f.seq ks ++ rest) × IsOlder queue d f ks × AreOlder queue d fs rest

-- Files and the last one of them, which is written up to an offset: their batches on the disk, and those that were written
-- since the last sync
pub record HoldsIn (queue : LogQueue) (fs : List File) (active : File) (offset : ℕ) (d : Disk) (synced unsynced : Numbered) : Type 0 where
  pub before : Numbered
  pub ks : List Batch
  pub us : List Batch
  pub synced_are : synced ≡ before ++ numbered active.seq ks
  pub unsynced_are : unsynced ≡ numbered active.seq us
  pub olders : AreOlder queue d fs before
  pub named : IsNamedSo d (id_of queue active.seq) active.handle.0
  pub stored : IsStored (id_of queue active.seq) active.format ks us offset (d.file active.handle.0)

-- the pipe's batches: those on the disk, and those that were written since its last sync
abbrev pub Holds : SinglePipe → Disk → Numbered → Numbered → Type 0
Holds p d synced unsynced = HoldsIn p.queue p.older.items p.active p.writer.offset d synced unsynced

-- ---- what a crash leaves

-- a file's bytes read as these batches, or there are none and the bytes are no more than a header
abbrev pub FileReads : FileId → List Batch → List ℕ → Type 0
FileReads id ks bytes = ReadsAs id ks bytes ⊎ ((ks ≡ []) × (length bytes ≤ 69))

-- what an image of files reads as
abbrev pub ImageReads : LogQueue → List File → Image → Numbered → Type 0
ImageReads queue [] image bs = bs ≡ []
ImageReads queue (f ∷ fs) image bs =
    (ks : List Batch) × (rest : Numbered) × (bs ≡ numbered f.seq ks ++ rest) × FileReads (id_of queue f.seq) ks (image f.handle.0)
    × ImageReads queue fs image rest

-- whatever a crash leaves, files read as these batches and a front of the others, unless bytes that nobody wrote pass as
-- records
abbrev pub LeavesIn : LogQueue → List File → Disk → Numbered → Numbered → Type 0
LeavesIn queue fs d synced unsynced = (image : Image) → IsImage d image → IsGenuineImage d image → (k : ℕ) × ImageReads queue fs image (synced ++ take k unsynced)

-- the same of the files of a pipe
abbrev pub Leaves : SinglePipe → Disk → Numbered → Numbered → Type 0
Leaves p d synced unsynced = LeavesIn p.queue (p.older.items ++ p.active ∷ []) d synced unsynced

-- ---- a pipe that can be used

-- the path of a log file in one of these directories
abbrev pub HasPath : List (String Global) → FileId → Text → Type 0
HasPath [] id path = ⊥
HasPath (dir ∷ dirs) id path = (path ≡ string_bytes dir ++ 47 ∷ log_file_name id) ⊎ HasPath dirs id path

-- in these directories no file of the queue has a greater number
abbrev pub IsLast : Disk → List (String Global) → LogQueue → ℕ → Type 0
IsLast d dirs queue last = (path : List ℕ) (seq : ℕ) → last < seq → IsFileSeq seq → HasPath dirs (id_of queue seq) path → fd_of d.names path ≡ None

-- the numbers of files follow one another up to the last
abbrev pub AreConsecutive : List File → ℕ → Type 0
AreConsecutive [] last = Unit {0}
AreConsecutive (f ∷ fs) last = (f.seq + length fs + 1 ≡ last) × AreConsecutive fs last

pub record IsPipe (p : SinglePipe) (d : Disk) : Type 0 where
  pub writer : IsWriter p.writer d
  pub handle : p.writer.fd ≡ p.active.handle
  pub plain : IsPlain p.default_format
  pub paths : 0 < length p.paths.items
  pub numbers : AreConsecutive p.older.items p.active.seq
  pub last : IsLast d p.paths.items p.queue p.active.seq
  pub named : IsNamedSo d (id_of p.queue p.active.seq) p.active.handle.0
  pub placed : AllByRecursion (λ f. f.path_id < length p.paths.items) (p.older.items ++ p.active ∷ [])
  pub there : p.active.handle.0 < d.next
  pub apart : AllByRecursion (λ f. (f.handle.0 < d.next) × (f.handle.0 ≢ p.active.handle.0)) p.older.items
  pub olders : AllByRecursion (λ f. IsNamedSo d (id_of p.queue f.seq) f.handle.0) p.older.items
  pub reserved : AreReserved p.queue (map string_bytes p.paths.items) d p.reserved.items

-- the number of the first file
abbrev pub first_of : SinglePipe → ℕ
first_of p = p.active.seq - length p.older.items

-- ---- batches that are written

-- the batch is written as a record
abbrev pub IsPopulated : batch.Batch → Type 0
IsPopulated b = (signature : Option ℕ) × (b.writing ≡ written signature)
