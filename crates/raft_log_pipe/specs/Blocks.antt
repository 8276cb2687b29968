-- Where the records of a pipe's batches stand, and what is read there.
use Rattle.std.specs.Prelude.{◌≡◌, ◌⊎◌, ℕ, ◌+◌, ◌<◌, ◌≤◌, List, [], ◌∷◌, ◌++◌, length, take, drop, ◌==◌, if◌then◌else◌}
use Rattle.raft_log_records.specs.declared.file_id.FileBlockHandle.{FileBlockHandle}
use Rattle.raft_log_records.specs.declared.file_id.LogQueue.{LogQueue}
use Rattle.raft_log_records.specs.Signature.{signature_of}
use Rattle.raft_log_records.specs.Spelling.{spell_record}
use Rattle.raft_log_disk.specs.Disk.{Disk, IsIn}
use Rattle.raft_log_disk.specs.Cause.{Meter}
use Rattle.raft_log_files.specs.declared.error.Error.{Error}
use Rattle.raft_log_files.specs.declared.error.Error.TheVariants.{Corruption}
use Rattle.raft_log_files.specs.declared.error.CorruptionFault.TheVariants.{NoSuchFile}
use Rattle.raft_log_file.specs.Errors.{IsReadFault}
use Rattle.raft_log_file.specs.Laws.{Batch, file_text}
use Rattle.raft_log_pipe.specs.declared.file.File.{File}
use Rattle.raft_log_pipe.specs.declared.pipe.SinglePipe.{SinglePipe}
use Rattle.raft_log_pipe.specs.Pipe.{Numbered, id_of, first_of, Holds}

-- the files of a pipe, in order
abbrev pub files_of : SinglePipe → List File
files_of p = p.older.items ++ p.active ∷ []

-- the files of before are files of it still
abbrev pub KeepsFiles : SinglePipe → SinglePipe → Type 0
KeepsFiles old new = (f : File) → IsIn f (files_of old) → IsIn f (files_of new)

-- no file of the pipe has this number
abbrev pub IsOutOfSpan : SinglePipe → ℕ → Type 0
IsOutOfSpan p seq = (seq < first_of p) ⊎ (p.active.seq < seq)

-- the batches of the file of a number
abbrev pub of_file : ℕ → Numbered → List Batch
of_file seq [] = []
of_file seq (b ∷ bs) = if b.0 == seq then b.1 ∷ of_file seq bs else of_file seq bs

-- the record of a batch in a file
abbrev pub record_in : File → Batch → List ℕ
record_in f items = spell_record (signature_of f.format.version f.seq) items

-- a block of the record of a batch that comes behind others, from so many bytes of the record on
pub record IsBlockOf (queue : LogQueue) (f : File) (before : Numbered) (items : Batch) (skip : ℕ) (h : FileBlockHandle) : Type 0 where
  pub seq : h.id.seq ≡ f.seq
  pub offset : h.offset ≡ length (file_text (id_of queue f.seq) f.format (of_file f.seq before)) + skip
  pub within : skip + h.len ≤ length (record_in f items)

-- the handle of a batch that comes behind others: its whole record
pub record IsRecordOf (queue : LogQueue) (f : File) (before : Numbered) (items : Batch) (h : FileBlockHandle) : Type 0 where
  pub block : IsBlockOf queue f before items 0 h
  pub id : h.id ≡ id_of queue f.seq
  pub len : h.len ≡ length (record_in f items)

-- the bytes of a block are those of the record that it is of
abbrev pub AreOfBlock : SinglePipe → Disk → FileBlockHandle → List ℕ → Type 0
AreOfBlock p d h bytes = (synced unsynced before after : Numbered) (f : File) (items : Batch) (skip : ℕ) → Holds p d synced unsynced
    → synced ++ unsynced ≡ before ++ (f.seq, items) ∷ after → IsIn f (files_of p) → IsBlockOf p.queue f before items skip h → bytes ≡ take h.len (drop skip (record_in f items))

-- the bytes of a block are those of the file of its number
abbrev pub AreOfFile : SinglePipe → Disk → FileBlockHandle → List ℕ → Type 0
AreOfFile p d h bytes = (f : File) → IsIn f (files_of p) → f.seq ≡ h.id.seq → bytes ≡ take h.len (drop h.offset (d.file f.handle.0).bytes)

-- the pipe has no file of the number, or the file isn't read
abbrev pub IsBlockFault : SinglePipe → Disk → Meter → FileBlockHandle → Error → Type 0
IsBlockFault p d meter h e = (IsOutOfSpan p h.id.seq × (e ≡ Corruption NoSuchFile)) ⊎ ((f : File) × IsIn f (files_of p) × (f.seq ≡ h.id.seq) × IsReadFault d meter f.handle.0 e)
