-- What a file system in memory stands for.
use Rattle.std.specs.Prelude.{◌≡◌, ℕ, ◌+◌, ◌-◌, ◌^◌, List, [], ◌∷◌, ◌++◌, map, take, drop, length, sum_by, Vec, String, Option}
use Rattle.std.specs.Prelude.{Some, None, is_some, Bool, true, false, nat_lt, ◌&&◌, ◌==◌, if◌then◌else◌}
use Rattle.std.specs.List.{list_all}
use Rattle.std.specs.String.{string_bytes}
use Rattle.std.specs.declared.alloc.Global.{Global}
use Rattle.raft_log_disk.specs.declared.memory_file.MemoryFile.{MemoryFile}
use Rattle.raft_log_disk.specs.Text.{Text, same_text, name_in}
use Rattle.raft_log_disk.specs.Disk.{FileState, Disk, no_bytes}
use Rattle.raft_log_disk.specs.Changes.{noted_file}
use Rattle.raft_log_disk.specs.declared.fuse.Fuse.{Fuse}
use Rattle.raft_log_disk.specs.declared.space.Space.{Space}
use Rattle.raft_log_disk.specs.Cause.{Meter}

abbrev pub state_of : MemoryFile → FileState
state_of s = noted_file s.bytes.items s.changes.items s.least s.greatest s.earlier.items s.later.items s.brought.items

-- ---- many files

abbrev pub texts_of : List (String Global) → List Text
texts_of texts = map string_bytes texts

abbrev pub names_of : List MemoryFile → List (Text × ℕ)
names_of files = map (λ f. (string_bytes f.path, f.number)) files

-- a test: the numbers rise
abbrev pub are_rising : List (Text × ℕ) → Bool
are_rising [] = true
are_rising (e ∷ es) = list_all (λ other. nat_lt e.1 other.1) es && are_rising es

-- the file of a number
abbrev pub file_of : List MemoryFile → ℕ → FileState
file_of [] n = no_bytes
file_of (f ∷ fs) n = if n == f.number then state_of f else file_of fs n

abbrev pub disk_of : List (String Global) → List MemoryFile → ℕ → Disk
disk_of directories files next = record { directories = texts_of directories; names = names_of files; file = file_of files; next = next }

-- the places of a number and of a path, where the first place is at
abbrev pub place_of : List MemoryFile → ℕ → ℕ → Option ℕ
place_of [] number at = None
place_of (f ∷ fs) number at = if f.number == number then Some at else place_of fs number (at + 1)

abbrev pub place_of_path : List MemoryFile → Text → ℕ → Option ℕ
place_of_path [] path at = None
place_of_path (f ∷ fs) path at = if same_text (string_bytes f.path) path then Some at else place_of_path fs path (at + 1)

-- the bytes that the files of a directory have together
abbrev pub used_of : List MemoryFile → Text → ℕ
used_of files directory = sum_by (λ f. if is_some (name_in directory (string_bytes f.path)) then length f.bytes.items else 0) files

-- the free bytes of a directory, by the newest bound on it
abbrev pub room_of : List Space → List MemoryFile → Text → ℕ
room_of [] files directory = 2 ^ 64 - 1
room_of (s ∷ ss) files directory = if same_text (string_bytes s.directory) directory then s.bytes - used_of files directory else room_of ss files directory

abbrev pub meter_of : Fuse → Meter
meter_of f = record { refusals = f.refusals; lacks = f.lacks; calls_left = f.calls_left; unreadable = texts_of f.unreadable.items; is_faulty = false }
