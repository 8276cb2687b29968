-- What a call that makes and deletes reserved files leaves as it is: all others.
use Rattle.std.specs.Prelude.{◌≡◌, ℕ, ◌≤◌}
use Rattle.raft_log_records.specs.declared.file_id.LogQueue.TheVariants.{Append}
use Rattle.raft_log_disk.specs.Text.{Text}
use Rattle.raft_log_disk.specs.Disk.{Disk, IsIn}
use Rattle.raft_log_pipe.specs.Reserved.{IsReservedPath}

-- paths that are no reserved ones name the same files, and these have what they had. No directory goes or is made
pub record KeepsUnreserved (d e : Disk) : Type 0 where
  pub stay : (path : Text) (fd : ℕ) → (IsReservedPath Append path → ⊥) → IsIn (path, fd) d.names → IsIn (path, fd) e.names × (e.file fd ≡ d.file fd)
  pub none : (path : Text) (fd : ℕ) → (IsReservedPath Append path → ⊥) → IsIn (path, fd) e.names → IsIn (path, fd) d.names
  pub next : d.next ≤ e.next
  pub directories : e.directories ≡ d.directories
