-- The files of a queue as they are found at an opening.
use Rattle.std.specs.Prelude.{◌≡◌, ◌⊎◌, ℕ, ◌<◌, ◌≤◌, List, [], ◌∷◌, ◌++◌, length, false, Result, Ok, Err, String}
use Rattle.std.specs.List.{AllByRecursion}
use Rattle.std.specs.declared.alloc.Global.{Global}
use Rattle.raft_log_records.specs.declared.file_id.FileId.{FileId}
use Rattle.raft_log_records.specs.declared.file_id.LogQueue.{LogQueue}
use Rattle.raft_log_disk.specs.declared.fault.IoFault.{IoFault}
use Rattle.raft_log_disk.specs.declared.format.LogFileFormat.{LogFileFormat}
use Rattle.raft_log_disk.specs.Disk.{Disk, FileState}
use Rattle.raft_log_disk.specs.Text.{Text}
use Rattle.raft_log_file.specs.declared.writer.LogFileWriter.{LogFileWriter}
use Rattle.raft_log_file.specs.Laws.{Batch}
use Rattle.raft_log_file.specs.Writer.{IsWriter, IsOpened}
use Rattle.raft_log_pipe.specs.declared.file.File.{File}
use Rattle.raft_log_pipe.specs.Alone.{IsMadeAt}
use Rattle.raft_log_pipe.specs.Begun.{Changes, IsBegun}
use Rattle.raft_log_pipe.specs.Stored.{IsStored}
use Rattle.raft_log_pipe.specs.Pipe.{Numbered, numbered, id_of, AreConsecutive, AreOlder, IsBlank, IsLast, IsNamedSo}

-- the last file: nothing stands behind its batches, or it is blank
abbrev pub IsWhole : FileId → LogFileFormat → List Batch → FileState → Type 0
IsWhole id format ks f = IsStored id format ks [] (length f.bytes) f ⊎ IsBlank format ks f

-- Files of a queue with numbers that follow one another, each named so on the disk: their batches, all of them on the disk.
-- The last one is written on, and no file in these directories has a greater number
pub record IsFound (queue : LogQueue) (dirs : List (String Global)) (d : Disk) (fs : List File) (bs : Numbered) : Type 0 where
  pub older : List File
  pub active : File
  pub before : Numbered
  pub ks : List Batch
  pub files_are : fs ≡ older ++ active ∷ []
  pub batches_are : bs ≡ before ++ numbered active.seq ks
  pub numbers : AreConsecutive older active.seq
  pub last : IsLast d dirs queue active.seq
  pub placed : AllByRecursion (λ f. f.path_id < length dirs) fs
  pub olders : AreOlder queue d older before
  pub named : IsNamedSo d (id_of queue active.seq) active.handle.0
  pub whole : IsWhole (id_of queue active.seq) active.format ks (d.file active.handle.0)

-- a file without bytes begins with its header, and any other goes on at its end
abbrev pub IsResumed : Disk → Disk → File → Result LogFileWriter IoFault → Type 0
IsResumed old new file (Ok w) =
    ((length (old.file file.handle.0).bytes ≡ 0) × IsBegun old new file (Ok w))
    ⊎ ((0 < length (old.file file.handle.0).bytes) × IsOpened old new file.handle.0 file.format false (Ok w) × IsWriter w new × (w.fd ≡ file.handle))
IsResumed old new file (Err e) =
    ((length (old.file file.handle.0).bytes ≡ 0) × IsBegun old new file (Err e))
    ⊎ (((0 < length (old.file file.handle.0).bytes) × IsOpened old new file.handle.0 file.format false (Err e)) ⊎ (new ≡ old))

-- nothing changed, or a file that has no bytes may have got its header, wholly or in part: a crash leaves no record of it
abbrev pub KeepsButHeader : Disk → Disk → List File → Type 0
KeepsButHeader old new fs = (new ≡ old) ⊎ ((older : List File) × (active : File) × (fs ≡ older ++ active ∷ [])
    × ((old.file active.handle.0).bytes ≡ []) × Changes old new active.handle.0 × ((new.file active.handle.0).greatest ≤ 69))

-- nothing changed, or a file was made in one of these directories, and a crash leaves of it no more than a header
abbrev pub MakesButHeader : Disk → Disk → List Text → FileId → Type 0
MakesButHeader old new directories id = (new ≡ old)
    ⊎ ((place : ℕ) × (made : Disk) × IsMadeAt old made directories id place × Changes made new old.next × ((new.file old.next).greatest ≤ 69))
