-- Reserved files that are made ahead, and those that go.
use Rattle.std.specs.Prelude.{◌≡◌, ◌⊎◌, ℕ, ◌+◌, ◌-◌, ◌<◌, ◌≤◌, ◌^◌, min, List, [], ◌∷◌, ◌++◌, length, None}
use Rattle.std.specs.List.{slice_index_or}
use Rattle.raft_log_disk.specs.Cause.{Meter, Rises}
use Rattle.raft_log_disk.specs.Text.{Text}
use Rattle.raft_log_disk.specs.Disk.{Disk, IsIn, fd_of}
use Rattle.raft_log_files.specs.FileName.{IsFileSeq}
use Rattle.raft_log_pipe.specs.declared.file.ReservedFile.{ReservedFile}
use Rattle.raft_log_pipe.specs.declared.pipe.SinglePipe.{SinglePipe}
use Rattle.raft_log_pipe.specs.Alone.{directories_of_pipe}
use Rattle.raft_log_pipe.specs.Reserved.{reserved_path}

-- ---- files that go

-- the list begins with these
abbrev pub IsFrontOf : {X : Type 0} → List X → List X → Type 0
IsFrontOf {X = X} front whole = (rest : List X) × (whole ≡ front ++ rest)

-- each reserved file of before is reserved still, or no file has its path any more
abbrev pub AreTrimmed : SinglePipe → SinglePipe → Disk → Type 0
AreTrimmed old new e = (f : ReservedFile) → IsIn f old.reserved.items → IsIn f new.reserved.items ⊎ (fd_of e.names (reserved_path (directories_of_pipe old) f.path_id f.seq) ≡ None)

-- ---- files that are made

-- the number behind those of these, or a first one
abbrev pub number_behind : List ReservedFile → ℕ → ℕ
number_behind [] first = first
number_behind (f ∷ fs) first = number_behind fs (min (f.seq + 1) (2 ^ 64 - 1))

-- a reserved file can be made there: its directory is, and nothing has its path
pub record IsFree (directories : List Text) (d : Disk) (f : ReservedFile) : Type 0 where
  pub number : IsFileSeq f.seq
  pub directory : IsIn (slice_index_or directories f.path_id []) d.directories
  pub file : fd_of d.names (reserved_path directories f.path_id f.seq) ≡ None
  pub none : IsIn (reserved_path directories f.path_id f.seq) d.directories → ⊥

-- in some directory of the pipe its next reserved file can't be made
abbrev pub IsObstructed : SinglePipe → Disk → Type 0
IsObstructed p d = (f : ReservedFile) × (f.seq ≡ number_behind p.reserved.items 1) × (f.path_id < length p.paths.items) × (IsFree (directories_of_pipe p) d f → ⊥)

-- there are as many as are wanted, or the next one can't be made, or a call was refused, as for want of space, and there are none
abbrev pub IsPreparedOf : SinglePipe → Disk → ℕ → Meter → Meter → Type 0
IsPreparedOf p d wanted old new = (length p.reserved.items ≡ wanted) ⊎ (IsObstructed p d ⊎ ((p.reserved.items ≡ []) × Rises 1 old new))

-- the file system has no numbers for so many new files
abbrev pub LacksNumbers : Disk → ℕ → Type 0
LacksNumbers d n = 2 ^ 64 ≤ d.next + n
