-- Where a file stands among others, and what a change of it makes of all.
use Rattle.std.specs.Prelude.{◌≡◌, ℕ, ◌<◌, Some, List, length, slice_set, remove, ◌==◌, if◌then◌else◌}
use Rattle.std.specs.List.{slice_index_or as get_or}
use Rattle.std.specs.String.{string_bytes}
use Rattle.raft_log_disk.specs.declared.memory_file.MemoryFile.{MemoryFile}
use Rattle.raft_log_disk.specs.Text.{Text}
use Rattle.raft_log_disk.specs.Disk.{IsIn, fd_of, without, moved, no_bytes}
use Rattle.raft_log_disk.specs.Memory.{state_of, names_of, file_of}

-- the file at this place is the first of the number
pub record IsPlace (fs : List MemoryFile) (number k : ℕ) : Type 0 where
  pub within : k < length fs
  pub numbered : (d : MemoryFile) → (get_or fs k d).number ≡ number
  pub among : (d : MemoryFile) → IsIn (string_bytes (get_or fs k d).path, number) (names_of fs)
  pub first : (d : MemoryFile) → file_of fs number ≡ state_of (get_or fs k d)
  pub changes : (s : MemoryFile) (n : ℕ) → s.number ≡ number → file_of (slice_set fs k s) n ≡ (if n == number then state_of s else file_of fs n)
  pub names : (s d : MemoryFile) → s.number ≡ number → s.path ≡ (get_or fs k d).path → names_of (slice_set fs k s) ≡ names_of fs

-- the file at this place is the first of the path
pub record IsPathPlace (fs : List MemoryFile) (path : Text) (k : ℕ) : Type 0 where
  pub within : k < length fs
  pub found : (d : MemoryFile) → fd_of (names_of fs) path ≡ Some (get_or fs k d).number
  pub gone : names_of (remove fs k) ≡ without (names_of fs) path
  pub gone_file : (d : MemoryFile) (n : ℕ) → file_of (remove fs k) n ≡ (if n == (get_or fs k d).number then no_bytes else file_of fs n)
  pub moves : (s d : MemoryFile) → s.number ≡ (get_or fs k d).number → names_of (slice_set fs k s) ≡ moved (names_of fs) path (string_bytes s.path)
  pub first : (d : MemoryFile) → file_of fs (get_or fs k d).number ≡ state_of (get_or fs k d)
  pub changes : (s d : MemoryFile) (n : ℕ) → s.number ≡ (get_or fs k d).number → file_of (slice_set fs k s) n ≡ (if n == (get_or fs k d).number then state_of s else file_of fs n)
