-- Which file of a queue a crash may leave torn behind a refused call.
use Rattle.std.specs.Prelude.{◌≡◌, ℕ, List, [], ◌∷◌, ◌++◌, Ok}
use Rattle.raft_log_records.specs.declared.file_id.FileId.{FileId}
use Rattle.raft_log_disk.specs.declared.format.LogFileFormat.{LogFileFormat}
use Rattle.raft_log_disk.specs.Chance.{IsGenuine}
use Rattle.raft_log_disk.specs.Disk.{Disk, FileState, IsIn}
use Rattle.raft_log_disk.specs.Format.{header_at}
use Rattle.raft_log_disk.specs.Image.{IsFileImage}
use Rattle.raft_log_pipe.specs.declared.file.File.{File}
use Rattle.raft_log_pipe.specs.declared.pipe.SinglePipe.{SinglePipe}
use Rattle.raft_log_pipe.specs.Alone.{AreLast, IsAlone, directories_of_pipe}
use Rattle.raft_log_pipe.specs.Pipe.{AreOlder, Holds, Numbered, id_of}

-- a header that a crash leaves of the file says no alignment, unless nobody wrote it
abbrev pub IsUnaligned : FileId → FileState → Type 0
IsUnaligned id f = (bytes : List ℕ) (format : LogFileFormat) → IsFileImage f bytes → IsGenuine id f bytes → header_at bytes ≡ Ok format → format.alignment ≡ 0

-- Of the last files of a pipe's queue a crash leaves at most the newest torn. Each other one ends right behind its last record, or
-- has no bytes and was there before. The newest may be a file that a refused call began, which the pipe doesn't have
pub record IsTornAtEnd (p : SinglePipe) (d : Disk) : Type 0 where
  pub older : List File
  pub newest : File
  pub batches : Numbered
  pub last : AreLast d.names (directories_of_pipe p) p.queue (older ++ newest ∷ [])
  pub whole : AreOlder p.queue d older batches
  pub known : (f : File) → IsIn f older → (d.file f.handle.0).bytes ≡ [] → IsIn f p.older.items
  pub plain : IsUnaligned (id_of p.queue newest.seq) (d.file newest.handle.0)

-- so it is after a call, where the pipe's files were the last ones of its queue
abbrev pub TearsAtEnd : SinglePipe → Disk → SinglePipe → Disk → Type 0
TearsAtEnd old d new e = IsAlone old d → (synced unsynced : Numbered) → Holds old d synced unsynced → IsTornAtEnd new e
