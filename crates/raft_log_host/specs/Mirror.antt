-- The files in memory are what the calls that were made of the system make of no files.
use Rattle.std.specs.Prelude.{◌≡◌, ◌⊎◌, ℕ, ◌+◌, Bool, true, false, List, [], ◌∷◌, None}
use Rattle.raft_log_disk.specs.declared.memory.MemoryFileSystem.{MemoryFileSystem}
use Rattle.raft_log_disk.specs.Cause.{Meter}
use Rattle.raft_log_disk.specs.Disk.{Disk, IsIn, Deletes, Renames, with_file, after_create, after_make_dir, after_write, after_truncate, after_allocate, after_sync, put, resized, filled}
use Rattle.raft_log_disk.specs.MemorySystem.{disk_in, meter_in, empty_disk}
use Rattle.raft_log_host.specs.Calls.{HostCall, Note, IsStopped, all_done, calls_of, Create, Take, Delete, Rename, MakeDir, Write, Read, Truncate, Fill, Sync, SyncFolder, Settle}

-- what a call that is wholly done makes of the files. What is read is taken as written.
abbrev pub Does : HostCall → Disk → Disk → Type 0
Does (Create path number) a b = (number ≡ a.next) × (b ≡ after_create a path)
Does (Take path number) a b = (number ≡ a.next) × (b ≡ after_create a path)
Does (Delete path) a b = Deletes a b path
Does (Rename from to) a b = Renames a b from to
Does (MakeDir path) a b = IsIn path b.directories × ((b ≡ a) ⊎ ((IsIn path a.directories → ⊥) × (b ≡ after_make_dir a path)))
Does (Write number at bytes) a b = b ≡ with_file a number (after_write (a.file number) at bytes (put (a.file number).bytes at bytes))
Does (Read number at bytes) a b = b ≡ with_file a number (after_write (a.file number) at bytes (put (a.file number).bytes at bytes))
Does (Truncate number len) a b = b ≡ with_file a number (after_truncate (a.file number) len (resized (a.file number).bytes len))
Does (Fill number at len) a b = b ≡ with_file a number (after_allocate (a.file number) at len (filled (a.file number).bytes (at + len)))
Does (Sync number) a b = b ≡ with_file a number (after_sync (a.file number))
Does (SyncFolder path) a b = b ≡ a
Does (Settle number) a b = b ≡ a

-- the record of these changes, each wholly done, the last one first
abbrev pub record_of : List HostCall → List Note
record_of [] = []
record_of (c ∷ cs) = all_done (calls_of c) (record_of cs)

-- these changes, the last one first, make this of no files
abbrev pub Makes : List HostCall → Disk → Type 0
Makes [] d = d ≡ empty_disk
Makes (c ∷ cs) d = (before : Disk) × Makes cs before × Does c before d

-- the calls that were made of the system are those of some changes, each wholly done, and these make the files
pub record Replays (events : List Note) (d : Disk) : Type 0 where
  pub changes : List HostCall
  pub noted_so : events ≡ record_of changes
  pub make : Makes changes d

-- the last change was stopped by a refusal of the system: in memory it is wholly done or not at all
pub record IsCutOff (events : List Note) (d : Disk) : Type 0 where
  pub earlier : List Note
  pub before : Disk
  pub replays : Replays earlier before
  pub change : HostCall
  pub stops : IsStopped (calls_of change) earlier events
  pub ends : (d ≡ before) ⊎ Does change before d

-- Once a call was refused no other one is made. Where memory didn't take a change, or what the system had done, the record is whole,
-- and what reads see may be other than what the disk has.
abbrev pub IsMirror : Bool → List Note → Disk → Type 0
IsMirror false events d = Replays events d
IsMirror true events d = IsCutOff events d ⊎ ((kept : Disk) × Replays events kept)

-- what contracts see of files on a disk
pub record OnHost : Type 0 where
  pub memory : MemoryFileSystem
  -- the calls that were made of the system, the last one first
  pub events : List Note
  pub refusals : ℕ
  pub has_failed : Bool

abbrev pub host_disk : OnHost → Disk
host_disk h = disk_in h.memory

-- the system may refuse a call for reasons of its own
abbrev pub host_meter : OnHost → Meter
host_meter h = record { refusals = h.refusals; lacks = (meter_in h.memory).lacks; calls_left = None; unreadable = (meter_in h.memory).unreadable; is_faulty = true }
