-- All files of a queue, read whole and repaired in the order of their numbers.
use Rattle.std.specs.Prelude.{◌≡◌, ℕ, ◌+◌, ◌<◌, List, [], ◌∷◌, ◌++◌, length, map, ◌==◌, false, Some, Err}
use Rattle.std.specs.String.{string_bytes}
use Rattle.std.specs.List.{AllByRecursion, slice_index_or}
use Rattle.raft_log_records.specs.declared.file_id.LogQueue.{LogQueue}
use Rattle.raft_log_records.specs.declared.file_id.LogQueue.TheVariants.{Append, Rewrite}
use Rattle.raft_log_disk.specs.Text.{Text}
use Rattle.raft_log_disk.specs.declared.format.HeaderFault.{HeaderFault}
use Rattle.raft_log_disk.specs.Disk.{Disk, IsIn, fd_of}
use Rattle.raft_log_disk.specs.Format.{header_at}
use Rattle.raft_log_files.specs.FileName.{IsFileSeq, log_file_name}
use Rattle.raft_log_files.specs.declared.error.CorruptionFault.{CorruptionFault}
use Rattle.raft_log_files.specs.declared.recovery.RecoveryMode.{RecoveryMode}
use Rattle.raft_log_pipe.specs.declared.file.File.{File}
use Rattle.raft_log_pipe.specs.Pipe.{id_of}
use Rattle.raft_log_recovery.specs.declared.builder.DualPipesBuilder.{DualPipesBuilder}
use Rattle.raft_log_recovery.specs.declared.scan.FileName.{FileName}
use Rattle.raft_log_recovery.specs.Repair.{IsAtRest, IsWhole, LeavesBatches, batches_in, cuts_faults, fault_in, format_in}
use Rattle.raft_log_recovery.specs.Replay.{ArePlaced, Placed}

-- ---- files by their names

-- the files of a queue that a builder has found
abbrev pub names_in : DualPipesBuilder → LogQueue → List FileName
names_in builder Append = builder.append_file_names.items
names_in builder Rewrite = builder.rewrite_file_names.items

abbrev pub directories_in : DualPipesBuilder → List Text
directories_in builder = map string_bytes builder.directories.items

-- the path of a file that was found
abbrev pub path_of : List Text → LogQueue → FileName → Text
path_of directories queue name = slice_index_or directories name.path_id [] ++ 47 ∷ log_file_name (id_of queue name.seq)

-- it has this number on the disk
abbrev pub IsFileOf : Disk → List Text → LogQueue → FileName → ℕ → Type 0
IsFileOf d directories queue name fd = fd_of d.names (path_of directories queue name) ≡ Some fd

-- the number of the next file is one more
abbrev pub IsFollowed : FileName → List FileName → Type 0
IsFollowed name [] = Unit {0}
IsFollowed name (other ∷ names) = other.seq ≡ name.seq + 1

-- numbers that follow one another, of files in so many directories
abbrev pub AreNumbered : ℕ → List FileName → Type 0
AreNumbered count [] = Unit {0}
AreNumbered count (name ∷ names) = IsFileSeq name.seq × (name.path_id < count) × IsFollowed name names × AreNumbered count names

-- ---- files that are recovered

-- it is the file of this name, which is open
pub record IsOpen (d : Disk) (directories : List Text) (queue : LogQueue) (name : FileName) (f : File) : Type 0 where
  pub seq : f.seq ≡ name.seq
  pub place : f.path_id ≡ name.path_id
  pub there : IsFileOf d directories queue name f.handle.0

-- files in the order of their names
abbrev pub AreOpen : Disk → List Text → LogQueue → List FileName → List File → Type 0
AreOpen d directories queue [] fs = fs ≡ []
AreOpen d directories queue (name ∷ names) fs = (f : File) × (rest : List File) × (fs ≡ f ∷ rest) × IsOpen d directories queue name f × AreOpen d directories queue names rest

-- The file is whole with the batches that it read as, and has the format that its header says, as it said before. One that has no
-- bytes had a broken header, or none
pub record IsRecovered (queue : LogQueue) (old new : Disk) (f : File) : Type 0 where
  pub header : f.format ≡ format_in (old.file f.handle.0).bytes
  pub whole : IsWhole (id_of queue f.seq) (new.file f.handle.0) (batches_in (id_of queue f.seq) (old.file f.handle.0).bytes)
  pub format : f.format ≡ format_in (new.file f.handle.0).bytes
  pub blank : (new.file f.handle.0).bytes ≡ [] → (e : HeaderFault) × (header_at (old.file f.handle.0).bytes ≡ Err e)

-- the batches of files, one file after the other, as a machine gets them
abbrev pub AreReplayed : LogQueue → Disk → List File → List Placed → Type 0
AreReplayed queue d [] all = all ≡ []
AreReplayed queue d (f ∷ fs) all =
    (first : List Placed) × (rest : List Placed) × (all ≡ first ++ rest)
    × ArePlaced (id_of queue f.seq) (d.file f.handle.0).bytes (batches_in (id_of queue f.seq) (d.file f.handle.0).bytes) first × AreReplayed queue d fs rest

-- nothing changes but files of these names
pub record OnlyChanges (directories : List Text) (queue : LogQueue) (names : List FileName) (old new : Disk) : Type 0 where
  pub directories_stay : new.directories ≡ old.directories
  pub names_stay : new.names ≡ old.names
  pub next : new.next ≡ old.next
  pub files : (fd : ℕ) → ((name : FileName) → IsIn name names → IsFileOf old directories queue name fd → ⊥) → new.file fd ≡ old.file fd

-- where there are such files, nothing else changes
abbrev pub ChangesAtMost : List Text → LogQueue → List FileName → Disk → Disk → Type 0
ChangesAtMost directories queue names old new = 0 < length names → OnlyChanges directories queue names old new

-- Files were found, opened and recovered in their order, and no other file changed
pub record AreRecovered (directories : List Text) (queue : LogQueue) (old new : Disk) (names : List FileName) (fs : List File) : Type 0 where
  pub opened : AreOpen old directories queue names fs
  pub each : AllByRecursion (IsRecovered queue old new) fs
  pub only : OnlyChanges directories queue names old new

-- ---- refusals

-- each of these files reads as the same batches
abbrev pub AreReadAlike : List Text → LogQueue → List FileName → Disk → Disk → Type 0
AreReadAlike directories queue names old new =
    (name : FileName) (fd : ℕ) → IsIn name names → IsFileOf old directories queue name fd
    → batches_in (id_of queue name.seq) (new.file fd).bytes ≡ batches_in (id_of queue name.seq) (old.file fd).bytes

-- whatever a crash leaves of a file that was at rest reads as the same batches
abbrev pub AreLeft : List Text → LogQueue → List FileName → Disk → Disk → Type 0
AreLeft directories queue names old new =
    (name : FileName) (fd : ℕ) → IsIn name names → IsFileOf old directories queue name fd → IsAtRest (old.file fd)
    → LeavesBatches (id_of queue name.seq) (new.file fd) (batches_in (id_of queue name.seq) (old.file fd).bytes)

-- these files are as they were
abbrev pub AreKept : List Text → LogQueue → List FileName → Disk → Disk → Type 0
AreKept directories queue names old new = (name : FileName) (fd : ℕ) → IsIn name names → IsFileOf old directories queue name fd → new.file fd ≡ old.file fd

-- the file of a name, with those behind it, has a fault that the mode refuses
abbrev pub HasRefused : RecoveryMode → List Text → LogQueue → Disk → FileName → List FileName → Type 0
HasRefused mode directories queue d name behind =
    (fd : ℕ) × (f : CorruptionFault) × IsFileOf d directories queue name fd × (fault_in (id_of queue name.seq) (d.file fd).bytes ≡ Some f)
    × (cuts_faults mode (length behind == 0) ≡ false)

-- one of the files has such a fault
abbrev pub AnyRefused : RecoveryMode → List Text → LogQueue → List FileName → Disk → Type 0
AnyRefused mode directories queue names d =
    (before : List FileName) × (name : FileName) × (behind : List FileName) × (names ≡ before ++ name ∷ behind) × HasRefused mode directories queue d name behind

-- a file that has such a fault, and those behind it, are as they were
abbrev pub KeepsRefused : RecoveryMode → List Text → LogQueue → List FileName → Disk → Disk → Type 0
KeepsRefused mode directories queue names old new =
    (before : List FileName) (name : FileName) (behind : List FileName) → names ≡ before ++ name ∷ behind → HasRefused mode directories queue old name behind
    → AreKept directories queue (name ∷ behind) old new
