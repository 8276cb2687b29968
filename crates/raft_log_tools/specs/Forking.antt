-- What a fork leaves: copies of the files that an opening finds, and all that was there.
use Rattle.std.specs.Prelude.{◌≡◌, ◌≢◌, ℕ, ◌<◌, ◌≤◌, List, ◌∷◌, ◌++◌, map}
use Rattle.raft_log_records.specs.declared.file_id.LogQueue.{LogQueue}
use Rattle.raft_log_records.specs.declared.file_id.LogQueue.TheVariants.{Append, Rewrite}
use Rattle.raft_log_disk.specs.Text.{Text}
use Rattle.raft_log_disk.specs.Disk.{Disk, IsIn}
use Rattle.raft_log_disk.specs.Image.{IsStill}
use Rattle.raft_log_files.specs.FileName.{log_file_name}
use Rattle.raft_log_pipe.specs.Pipe.{id_of}
use Rattle.raft_log_recovery.specs.declared.scan.FileKind.TheVariants.{Log}
use Rattle.raft_log_recovery.specs.declared.scan.FileName.{FileName}
use Rattle.raft_log_recovery.specs.Queue.{IsFileOf}
use Rattle.raft_log_recovery.specs.Scan.{AreFound}

-- nothing changes but this file
pub record WritesOnly (old new : Disk) (fd : ℕ) : Type 0 where
  pub directories : new.directories ≡ old.directories
  pub names : new.names ≡ old.names
  pub next : new.next ≡ old.next
  pub others : (n : ℕ) → n ≢ fd → new.file n ≡ old.file n

-- all that was there is as it was: directories and files may have been made
pub record OnlyAdds (old new : Disk) : Type 0 where
  pub made : List Text
  pub directories : new.directories ≡ old.directories ++ made
  pub added : List (Text × ℕ)
  pub names : new.names ≡ old.names ++ added
  pub next : old.next ≤ new.next
  pub files : (n : ℕ) → n < old.next → new.file n ≡ old.file n

-- ---- copies

-- the path of a file's copy: the target, and the name of the file
abbrev pub copy_path : Text → LogQueue → FileName → Text
copy_path target queue name = target ++ 47 ∷ log_file_name (id_of queue name.seq)

abbrev pub copy_paths : Text → LogQueue → List FileName → List Text
copy_paths target queue names = map (copy_path target queue) names

-- the file of a name has a copy with its bytes, all of it on the disk
pub record IsCopied (old new : Disk) (directories : List Text) (queue : LogQueue) (name : FileName) (target : Text) : Type 0 where
  pub source : ℕ
  pub copy : ℕ
  pub there : IsFileOf old directories queue name source
  pub named : IsIn (copy_path target queue name, copy) new.names
  pub apart : old.next ≤ copy
  pub bytes : (new.file copy).bytes ≡ (old.file source).bytes
  pub still : IsStill (new.file copy)

-- so has each of these names
abbrev pub AreCopied : Disk → Disk → List Text → LogQueue → Text → List FileName → Type 0
AreCopied old new directories queue target names = (name : FileName) → IsIn name names → IsCopied old new directories queue name target

-- of each queue the files that an opening finds have copies, and these are their paths
pub record IsForkOf (old new : Disk) (directories : List Text) (target : Text) (paths : List Text) : Type 0 where
  pub append : List FileName
  pub rewrite : List FileName
  pub append_found : AreFound old (Log Append) directories append
  pub rewrite_found : AreFound old (Log Rewrite) directories rewrite
  pub append_copied : AreCopied old new directories Append target append
  pub rewrite_copied : AreCopied old new directories Rewrite target rewrite
  pub paths_are : paths ≡ copy_paths target Append append ++ copy_paths target Rewrite rewrite
  pub made : IsIn target new.directories
