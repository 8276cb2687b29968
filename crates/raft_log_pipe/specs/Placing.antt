-- Where a new file goes.
use Rattle.std.specs.Prelude.{◌≡◌, ◌⊎◌, ℕ, ◌+◌, nat_le, List, [], ◌∷◌, Option, Some, None, Result, Ok, Err, String, if◌then◌else◌}
use Rattle.std.specs.String.{string_bytes}
use Rattle.std.specs.declared.alloc.Global.{Global}
use Rattle.raft_log_records.specs.declared.file_id.FileId.{FileId}
use Rattle.raft_log_disk.specs.declared.fault.IoFault.{IoFault}
use Rattle.raft_log_disk.specs.Text.{Text}
use Rattle.raft_log_disk.specs.Disk.{Disk, after_create, fd_of}
use Rattle.raft_log_disk.specs.Name.{log_file_of}
use Rattle.raft_log_pipe.specs.declared.file.File.{File}

-- the place of the first directory, counted from a place on, whose free bytes reach a size
abbrev pub first_with_room : (Text → ℕ) → ℕ → ℕ → List (String Global) → Option ℕ
first_with_room room size at [] = None
first_with_room room size at (path ∷ paths) = if nat_le size (room (string_bytes path)) then Some at else first_with_room room size (at + 1) paths

-- or the main one
abbrev pub or_main : Option ℕ → ℕ
or_main None = 0
or_main (Some at) = at

abbrev pub path_chosen : (Text → ℕ) → ℕ → List (String Global) → ℕ
path_chosen room size paths = or_main (first_with_room room size 0 paths)

-- a file was made under a path that says this log file
abbrev pub Creates : Disk → Disk → FileId → Type 0
Creates old new id = (path : List ℕ) × (log_file_of path ≡ Some id) × (fd_of old.names path ≡ None) × (new ≡ after_create old path)

-- so after `Ok`, and perhaps after an `Err`
abbrev pub IsCreated : Disk → Disk → FileId → Result File IoFault → Type 0
IsCreated old new id (Ok f) = (f.handle.0 ≡ old.next) × Creates old new id
IsCreated old new id (Err e) = (new ≡ old) ⊎ Creates old new id
