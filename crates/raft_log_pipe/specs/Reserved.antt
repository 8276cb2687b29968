-- Files that are kept for reuse: they have names of their own, which are no log file's. The append queue alone has them.
use Rattle.std.specs.Prelude.{◌≡◌, ℕ, ◌<◌, nat_lt, Bool, true, List, [], ◌∷◌, ◌++◌, length}
use Rattle.std.specs.List.{AllByRecursion, slice_index_or}
use Rattle.raft_log_records.specs.declared.file_id.LogQueue.{LogQueue}
use Rattle.raft_log_records.specs.declared.file_id.LogQueue.TheVariants.{Append, Rewrite}
use Rattle.raft_log_disk.specs.Text.{Text}
use Rattle.raft_log_disk.specs.Disk.{Disk, IsIn}
use Rattle.raft_log_files.specs.FileName.{IsFileSeq, reserved_name}
use Rattle.raft_log_pipe.specs.declared.file.ReservedFile.{ReservedFile}

-- the path of a reserved file in the directory at a place
abbrev pub reserved_path : List Text → ℕ → ℕ → Text
reserved_path directories place n = slice_index_or directories place [] ++ 47 ∷ reserved_name n

-- the path is a reserved file's of the queue
abbrev pub IsReservedPath : LogQueue → Text → Type 0
IsReservedPath Append path = (directory : Text) × (n : ℕ) × IsFileSeq n × (path ≡ directory ++ 47 ∷ reserved_name n)
IsReservedPath Rewrite path = ⊥

-- the file has its reserved name, in a directory that is there
pub record IsReserved (queue : LogQueue) (directories : List Text) (d : Disk) (f : ReservedFile) : Type 0 where
  pub own : queue ≡ Append
  pub number : IsFileSeq f.seq
  pub within : f.path_id < length directories
  pub fd : ℕ
  pub there : IsIn (reserved_path directories f.path_id f.seq, fd) d.names
  pub directory : IsIn (slice_index_or directories f.path_id []) d.directories

-- so have these, with rising numbers
abbrev pub AreReserved : LogQueue → List Text → Disk → List ReservedFile → Type 0
AreReserved queue directories d [] = Unit {0}
AreReserved queue directories d (f ∷ fs) = IsReserved queue directories d f × AllByRecursion (λ g. f.seq < g.seq) fs × AreReserved queue directories d fs

-- a test: a number is below that of the first of these
abbrev pub is_before : ReservedFile → List ReservedFile → Bool
is_before f [] = true
is_before f (g ∷ gs) = nat_lt f.seq g.seq
