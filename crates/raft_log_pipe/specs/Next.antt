-- A file that goes on behind the last one of a pipe: a new one, or the first reserved one.
use Rattle.std.specs.Prelude.{◌≡◌, ◌⊎◌, ℕ, ◌+◌, ◌<◌, ◌≤◌, List, [], ◌∷◌, length, Some, None, Result, Ok, Err}
use Rattle.raft_log_records.specs.declared.file_id.FileId.{FileId}
use Rattle.raft_log_disk.specs.declared.fault.IoFault.{IoFault}
use Rattle.raft_log_disk.specs.Chance.{IsGenuine}
use Rattle.raft_log_disk.specs.Disk.{Disk, FileState, fd_of}
use Rattle.raft_log_disk.specs.Image.{IsFileImage}
use Rattle.raft_log_disk.specs.Name.{log_file_of}
use Rattle.raft_log_disk.specs.Text.{Text}
use Rattle.raft_log_file.specs.declared.writer.LogFileWriter.{LogFileWriter}
use Rattle.raft_log_file.specs.Writer.{IsWriter}
use Rattle.raft_log_pipe.specs.declared.file.File.{File}
use Rattle.raft_log_pipe.specs.declared.file.ReservedFile.{ReservedFile}
use Rattle.raft_log_pipe.specs.declared.pipe.SinglePipe.{SinglePipe}
use Rattle.raft_log_pipe.specs.Alone.{directories_of_pipe, path_in}
use Rattle.raft_log_pipe.specs.Pipe.{FileReads, id_of}
use Rattle.raft_log_pipe.specs.Reserved.{reserved_path}
use Rattle.raft_log_pipe.specs.Stored.{IsStored}
use Rattle.raft_log_pipe.specs.Torn.{IsUnaligned}

-- the path of the next file in the directory at a place
abbrev pub next_in : SinglePipe → ℕ → Text
next_in p place = path_in (directories_of_pipe p) place (id_of p.queue (p.active.seq + 1))

-- log files have what they had, under the names that they had. One path may have come to be another file's
pub record KeepsLogs (but : Text → Type 0) (d e : Disk) : Type 0 where
  pub names : (path : Text) (id : FileId) → log_file_of path ≡ Some id → (but path → ⊥) → fd_of e.names path ≡ fd_of d.names path
  pub files : (path : Text) (id : FileId) (fd : ℕ) → log_file_of path ≡ Some id → fd_of d.names path ≡ Some fd → e.file fd ≡ d.file fd
  pub next : d.next ≤ e.next

-- so they are
abbrev pub KeepsAllLogs : Disk → Disk → Type 0
KeepsAllLogs d e = KeepsLogs (λ path. ⊥) d e

-- a file has the next number and its path, and else no log file changed
pub record IsBehind (p : SinglePipe) (d e : Disk) (f : File) : Type 0 where
  pub seq : f.seq ≡ p.active.seq + 1
  pub within : f.path_id < length p.paths.items
  pub free : fd_of d.names (next_in p f.path_id) ≡ None
  pub there : fd_of e.names (next_in p f.path_id) ≡ Some f.handle.0
  pub known : f.handle.0 < e.next
  pub logs : KeepsLogs (λ path. path ≡ next_in p f.path_id) d e

-- a crash leaves no batches of it, and its header says no alignment
pub record HasNoBatches (id : FileId) (f : FileState) : Type 0 where
  pub none : (bytes : List ℕ) → IsFileImage f bytes → IsGenuine id f bytes → FileReads id [] bytes
  pub plain : IsUnaligned id f

-- it has its header, on the disk. After an `Err` it may be there, without batches
abbrev pub GoesOn : SinglePipe → Disk → Disk → Result (File × LogFileWriter) IoFault → Type 0
GoesOn p d e (Ok x) = IsBehind p d e x.0 × IsStored (id_of p.queue x.0.seq) x.0.format [] [] x.1.offset (e.file x.0.handle.0) × IsWriter x.1 e × (x.1.fd ≡ x.0.handle) × (x.1.offset ≤ 69)
GoesOn p d e (Err x) = KeepsAllLogs d e ⊎ ((f : File) × IsBehind p d e f × HasNoBatches (id_of p.queue f.seq) (e.file f.handle.0))

-- the first of these reserved files goes on: its name is the next one now, and the others stay reserved. Where there is none a new file goes on
abbrev pub TakesFirst : List ReservedFile → SinglePipe → Disk → List ReservedFile → File → Disk → Type 0
TakesFirst [] p d left f e = (left ≡ []) × (f.handle.0 ≡ d.next)
TakesFirst (r ∷ rs) p d left f e = (left ≡ rs) × (fd_of d.names (reserved_path (directories_of_pipe p) r.path_id r.seq) ≡ Some f.handle.0)
    × (fd_of e.names (reserved_path (directories_of_pipe p) r.path_id r.seq) ≡ None) × (fd_of e.names (next_in p r.path_id) ≡ Some f.handle.0)
