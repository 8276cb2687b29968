-- What a file system in memory shows: its disk, its refusals and its room.
use Rattle.std.specs.Prelude.{◌≡◌, ℕ, ◌^◌, ◌-◌, List, [], ◌∷◌, refl, None, false}
use Rattle.raft_log_disk.specs.declared.memory.MemoryFileSystem.{MemoryFileSystem}
use Rattle.raft_log_disk.specs.declared.memory_file.MemoryFile.{MemoryFile}
use Rattle.raft_log_disk.specs.declared.space.Space.{Space}
use Rattle.raft_log_disk.specs.Text.{Text}
use Rattle.raft_log_disk.specs.Cause.{Meter}
use Rattle.raft_log_disk.specs.Disk.{Disk, IsNamed, no_bytes}
use Rattle.raft_log_disk.specs.Memory.{disk_of, meter_of, room_of, used_of}

abbrev pub disk_in : MemoryFileSystem → Disk
disk_in m = disk_of m.directories.items m.files.items m.next

abbrev pub meter_in : MemoryFileSystem → Meter
meter_in m = meter_of m.fuse

abbrev pub room_in : MemoryFileSystem → Text → ℕ
room_in m directory = room_of m.spaces.items m.files.items directory

-- the bytes that the files of a directory have together
abbrev pub used_in : MemoryFileSystem → Text → ℕ
used_in m directory = used_of m.files.items directory

-- no directories and no files
abbrev pub empty_disk : Disk
empty_disk = record { directories = []; names = []; file = λ n. no_bytes; next = 1 }

-- no call was refused, and none will be but for want of room
abbrev pub full_meter : Meter
full_meter = record { refusals = 0; lacks = 0; calls_left = None; unreadable = []; is_faulty = false }

-- each file has a path and a number of its own
pub memory_is_named : (m : MemoryFileSystem) → IsNamed (disk_in m)
memory_is_named m = m.named

-- there is a bound
abbrev pub AreBounds : List Space → Type 0
AreBounds [] = ⊥
AreBounds (s ∷ ss) = Unit {0}

-- the bytes of some directory are bounded
abbrev pub is_bounded_in : MemoryFileSystem → Type 0
is_bounded_in m = AreBounds m.spaces.items

unbounded : (spaces : List Space) (files : List MemoryFile) → (AreBounds spaces → ⊥) → (directory : Text) → room_of spaces files directory ≡ 2 ^ 64 - 1
unbounded [] files none directory = refl
unbounded (s ∷ ss) files none directory = absurd (none tt)

-- without a bound each directory has as many free bytes as a number can say
pub memory_has_room : (m : MemoryFileSystem) → (is_bounded_in m → ⊥) → (directory : Text) → room_in m directory ≡ 2 ^ 64 - 1
memory_has_room m none directory = unbounded m.spaces.items m.files.items none directory
