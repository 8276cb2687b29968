-- What a call on one queue leaves as it is: files of other names.
use Rattle.std.specs.Prelude.{◌≡◌, ℕ, ◌≤◌, Some}
use Rattle.raft_log_records.specs.declared.file_id.LogQueue.{LogQueue}
use Rattle.raft_log_disk.specs.Text.{Text}
use Rattle.raft_log_disk.specs.Disk.{Disk, IsIn}
use Rattle.raft_log_disk.specs.Name.{log_file_of}
use Rattle.raft_log_pipe.specs.Pipe.{id_of}
use Rattle.raft_log_pipe.specs.Reserved.{IsReservedPath}

-- the path is no log file's of the queue, and no reserved file's of it
abbrev pub IsOther : LogQueue → Text → Type 0
IsOther queue path = ((seq : ℕ) → log_file_of path ≡ Some (id_of queue seq) → ⊥) × (IsReservedPath queue path → ⊥)

-- Paths that are no log file's and no reserved file's of the queue name the same files as before. These have what they had, so a crash leaves of them
-- what it would have left. No directory goes or is made
pub record KeepsOthers (queue : LogQueue) (d e : Disk) : Type 0 where
  pub stay : (path : Text) (fd : ℕ) → IsOther queue path → IsIn (path, fd) d.names → IsIn (path, fd) e.names × (e.file fd ≡ d.file fd)
  pub none : (path : Text) (fd : ℕ) → IsOther queue path → IsIn (path, fd) e.names → IsIn (path, fd) d.names
  pub next : d.next ≤ e.next
  pub directories : e.directories ≡ d.directories
