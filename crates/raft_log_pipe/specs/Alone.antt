-- The log files of a queue that stand in its directories, and which of them are those of a pipe.
use Rattle.std.specs.Prelude.{◌≡◌, ◌⊎◌, ℕ, ◌+◌, ◌<◌, ◌≤◌, List, [], ◌∷◌, ◌++◌, length, map, Some, None, Result, Ok, Err}
use Rattle.std.specs.List.{AllByRecursion, slice_index_or}
use Rattle.std.specs.String.{string_bytes}
use Rattle.raft_log_records.specs.declared.file_id.FileId.{FileId}
use Rattle.raft_log_records.specs.declared.file_id.LogQueue.{LogQueue}
use Rattle.raft_log_disk.specs.declared.fault.IoFault.{IoFault}
use Rattle.raft_log_disk.specs.Text.{Text}
use Rattle.raft_log_disk.specs.Disk.{Disk, IsIn, after_create, fd_of}
use Rattle.raft_log_files.specs.FileName.{IsFileSeq, log_file_name}
use Rattle.raft_log_pipe.specs.declared.file.File.{File}
use Rattle.raft_log_pipe.specs.declared.pipe.SinglePipe.{SinglePipe}
use Rattle.raft_log_pipe.specs.Blocks.{files_of}
use Rattle.raft_log_pipe.specs.Pipe.{AreConsecutive, LeavesIn, id_of}

-- paths of files and their numbers on the disk
abbrev pub Names : Type 0
Names = List (Text × ℕ)

-- the path of a log file in the directory at a place
abbrev pub path_in : List Text → ℕ → FileId → Text
path_in directories place id = slice_index_or directories place [] ++ 47 ∷ log_file_name id

-- a log file of the queue stands in the directory at a place
abbrev pub StandsAt : Names → List Text → LogQueue → ℕ → ℕ → ℕ → Type 0
StandsAt names directories queue seq place fd = IsFileSeq seq × (place < length directories) × (fd_of names (path_in directories place (id_of queue seq)) ≡ Some fd)

-- no log file of the queue stands there
abbrev pub IsVacant : Names → List Text → LogQueue → Type 0
IsVacant names directories queue = (seq place fd : ℕ) → StandsAt names directories queue seq place fd → ⊥

-- no directory is said twice
abbrev pub AreDistinct : List Text → Type 0
AreDistinct directories = (i j : ℕ) → i < length directories → j < length directories → slice_index_or directories i [] ≡ slice_index_or directories j [] → i ≡ j

-- so, and no two files of the queue have one number
pub record IsOnce (names : Names) (directories : List Text) (queue : LogQueue) : Type 0 where
  pub apart : AreDistinct directories
  pub once : (seq i j fd gd : ℕ) → StandsAt names directories queue seq i fd → StandsAt names directories queue seq j gd → i ≡ j

-- Files are the last ones of the queue in these directories: a file with a greater number than one of them, or the number
-- before it, is one of them. So an opening goes on from them
pub record AreLast (names : Names) (directories : List Text) (queue : LogQueue) (fs : List File) : Type 0 where
  pub next : ℕ
  pub numbers : AreConsecutive fs next
  pub each : AllByRecursion (λ f. StandsAt names directories queue f.seq f.path_id f.handle.0) fs
  pub once : IsOnce names directories queue
  pub only : (seq place fd : ℕ) (f : File) → StandsAt names directories queue seq place fd → IsIn f fs → f.seq ≤ seq + 1 → (g : File) × IsIn g fs × (g.seq ≡ seq)

-- ---- of a pipe

abbrev pub directories_of_pipe : SinglePipe → List Text
directories_of_pipe p = map string_bytes p.paths.items

-- the main directory, the first one
abbrev pub main_of : List Text → Text
main_of [] = []
main_of (directory ∷ directories) = directory

-- its files are the last ones of its queue
abbrev pub IsAlone : SinglePipe → Disk → Type 0
IsAlone p d = AreLast d.names (directories_of_pipe p) p.queue (files_of p)

-- so they are, with others behind them of which a crash leaves no batches
pub record IsNearlyAlone (p : SinglePipe) (d : Disk) : Type 0 where
  pub others : List File
  pub last : AreLast d.names (directories_of_pipe p) p.queue (files_of p ++ others)
  pub none : LeavesIn p.queue others d [] []

-- ---- a new file

-- it was made in the directory at a place
pub record IsMadeAt (old new : Disk) (directories : List Text) (id : FileId) (place : ℕ) : Type 0 where
  pub within : place < length directories
  pub free : fd_of old.names (path_in directories place id) ≡ None
  pub is : new ≡ after_create old (path_in directories place id)

-- so after `Ok`, and perhaps after an `Err`
abbrev pub IsMadeIn : Disk → Disk → List Text → FileId → Result File IoFault → Type 0
IsMadeIn old new directories id (Ok f) = (f.handle.0 ≡ old.next) × IsMadeAt old new directories id f.path_id
IsMadeIn old new directories id (Err e) = (new ≡ old) ⊎ ((place : ℕ) × IsMadeAt old new directories id place)
