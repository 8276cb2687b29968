-- Files of a pipe that go, the first ones first.
use Rattle.std.specs.Prelude.{◌≡◌, ◌⊎◌, ℕ, ◌+◌, ◌-◌, ◌<◌, ◌≤◌, List, [], ◌∷◌, ◌++◌, drop, length, nat_lt, Some, None, if◌then◌else◌, String}
use Rattle.std.specs.List.{slice_index_or}
use Rattle.std.specs.String.{string_bytes}
use Rattle.std.specs.declared.alloc.Global.{Global}
use Rattle.raft_log_records.specs.declared.file_id.LogQueue.{LogQueue}
use Rattle.raft_log_records.specs.declared.file_id.LogQueue.TheVariants.{Append}
use Rattle.raft_log_records.specs.declared.version.Version.TheVariants.{V2}
use Rattle.raft_log_disk.specs.Disk.{Disk, IsIn, fd_of, renamed}
use Rattle.raft_log_disk.specs.Name.{log_file_of}
use Rattle.raft_log_files.specs.FileName.{IsFileSeq, log_file_name}
use Rattle.raft_log_pipe.specs.declared.file.File.{File}
use Rattle.raft_log_pipe.specs.declared.file.ReservedFile.{ReservedFile}
use Rattle.raft_log_pipe.specs.declared.pipe.SinglePipe.{SinglePipe}
use Rattle.raft_log_pipe.specs.Alone.{IsAlone, directories_of_pipe, path_in}
use Rattle.raft_log_pipe.specs.Prepared.{IsFrontOf, number_behind}
use Rattle.raft_log_pipe.specs.Pipe.{Numbered, id_of, first_of, Holds}
use Rattle.raft_log_pipe.specs.Reserved.{IsReservedPath, reserved_path}

-- the batches of the files from a number on
abbrev pub from_file : ℕ → Numbered → Numbered
from_file seq [] = []
from_file seq (b ∷ bs) = if nat_lt b.0 seq then from_file seq bs else b ∷ from_file seq bs

-- these are the last ones of those files
abbrev pub AreLastOf : {X : Type 0} → List X → List X → Type 0
AreLastOf old new = (n : ℕ) × (new ≡ drop n old)

-- the pipe holds the batches of its files that are left
abbrev pub HoldsRest : SinglePipe → Disk → SinglePipe → Disk → Type 0
HoldsRest old d new e = (synced unsynced : Numbered) → Holds old d synced unsynced → Holds new e (from_file (first_of new) synced) unsynced

-- The path is a reserved one of the queue now, and names a file that was a log file of it with a number below this one. The file has all that it had, and
-- what was written to it before is no log file's any more
pub record IsKeptFile (queue : LogQueue) (seq : ℕ) (d e : Disk) (path : List ℕ) (fd : ℕ) : Type 0 where
  pub reserved : IsReservedPath queue path
  pub from : List ℕ
  pub number : ℕ
  pub below : number < seq
  pub was : IsIn (from, fd) d.names
  pub said : log_file_of from ≡ Some (id_of queue number)
  pub file : e.file fd ≡ renamed (d.file fd)

-- of the disk only log files of the queue with numbers below this one may have gone, or have got reserved names
pub record KeepsFrom (queue : LogQueue) (seq : ℕ) (d e : Disk) : Type 0 where
  pub names : (path : List ℕ) (fd : ℕ) → IsIn (path, fd) d.names → IsIn (path, fd) e.names ⊎ ((n : ℕ) × (n < seq) × (log_file_of path ≡ Some (id_of queue n)))
  pub files : (path : List ℕ) (fd : ℕ) → IsIn (path, fd) e.names → (IsIn (path, fd) d.names × (e.file fd ≡ d.file fd)) ⊎ IsKeptFile queue seq d e path fd
  pub next : e.next ≡ d.next
  pub directories : e.directories ≡ d.directories

-- no file has the path of this one of a pipe any more
abbrev pub IsGone : SinglePipe → File → Disk → Type 0
IsGone p f e = (dir : String Global) → dir ≡ slice_index_or p.paths.items f.path_id dir → fd_of e.names (string_bytes dir ++ 47 ∷ log_file_name (id_of p.queue f.seq)) ≡ None

-- each file of before is still one of the pipe, or its path is gone
abbrev pub AreGone : SinglePipe → SinglePipe → Disk → Type 0
AreGone old new e = (f : File) → IsIn f old.older.items → IsIn f new.older.items ⊎ IsGone old f e

-- Behind a refusal the file that was to go may stand there still, though the pipe doesn't have it any more. A pipe that has all that stand
-- there begins with a file of before, at the latest with the first one of the pipe: its files are the last ones of the queue, and it holds
-- their batches
pub record StandsFrom (old : SinglePipe) (d : Disk) (new : SinglePipe) (e : Disk) : Type 0 where
  pub pipe : SinglePipe
  pub queue : pipe.queue ≡ old.queue
  pub paths : pipe.paths ≡ old.paths
  pub first : (first_of old ≤ first_of pipe) × (first_of pipe ≤ first_of new)
  pub alone : IsAlone old d → IsAlone pipe e
  pub holds : HoldsRest old d pipe e

-- ---- files that are kept for reuse

-- the reserved file that a log file becomes behind these
abbrev pub kept_behind : List ReservedFile → File → ReservedFile
kept_behind rs f = record { seq = number_behind rs 1; path_id = f.path_id }

-- its path
abbrev pub kept_path : SinglePipe → List ReservedFile → File → List ℕ
kept_path p rs f = reserved_path (directories_of_pipe p) f.path_id (number_behind rs 1)

-- how many reserved files a pipe may have behind a purge to this number: no more than the capacity with the files that stay
abbrev pub room_from : SinglePipe → ℕ → ℕ
room_from p seq = p.capacity - (length p.older.items + 1 - (seq - first_of p))

-- A file of a pipe can be kept behind these reserved ones: version 1 has no use for it, fewer than so many are kept, and nothing has the path that it would get
pub record CanBeKept (p : SinglePipe) (d : Disk) (room : ℕ) (rs : List ReservedFile) (f : File) : Type 0 where
  pub own : p.queue ≡ Append
  pub version : f.format.version ≡ V2
  pub few : length rs < room
  pub number : IsFileSeq (number_behind rs 1)
  pub directory : IsIn (slice_index_or (directories_of_pipe p) f.path_id []) d.directories
  pub vacant : IsIn (kept_path p rs f) d.directories → ⊥
  pub free : fd_of d.names (kept_path p rs f) ≡ None

-- it was kept: what had its path has the reserved one
pub record IsKept (p : SinglePipe) (d : Disk) (new : SinglePipe) (e : Disk) (rs : List ReservedFile) (f : File) : Type 0 where
  pub among : IsIn (kept_behind rs f) new.reserved.items
  pub fd : ℕ
  pub was : fd_of d.names (path_in (directories_of_pipe p) f.path_id (id_of p.queue f.seq)) ≡ Some fd
  pub is : fd_of e.names (kept_path p rs f) ≡ Some fd

-- a file that went was kept behind the reserved files that there were by then, where it could be
pub record IsKeptIfCan (p : SinglePipe) (d : Disk) (new : SinglePipe) (e : Disk) (room : ℕ) (f : File) : Type 0 where
  pub reserved : List ReservedFile
  pub before : IsFrontOf p.reserved.items reserved
  pub behind : IsFrontOf reserved new.reserved.items
  pub kept : CanBeKept p d room reserved f → IsKept p d new e reserved f

-- each file that went
abbrev pub AreKeptIfCan : SinglePipe → Disk → SinglePipe → Disk → ℕ → Type 0
AreKeptIfCan p d new e room = (f : File) → IsIn f p.older.items → IsIn f new.older.items ⊎ IsKeptIfCan p d new e room f

-- no other path names a file that it didn't name before
abbrev pub NamesNoOther : SinglePipe → Disk → Disk → Type 0
NamesNoOther new d e = (path : List ℕ) (fd : ℕ) → IsIn (path, fd) e.names
    → IsIn (path, fd) d.names ⊎ ((r : ReservedFile) × IsIn r new.reserved.items × (path ≡ reserved_path (directories_of_pipe new) r.path_id r.seq))
