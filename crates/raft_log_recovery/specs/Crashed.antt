-- What an opening finds of a queue after a crash.
use Rattle.std.specs.Prelude.{◌≡◌, ◌⊎◌, ℕ, List, [], ◌++◌, take, None}
use Rattle.raft_log_records.specs.declared.file_id.LogQueue.{LogQueue}
use Rattle.raft_log_disk.specs.Chance.{IsGenuineImage}
use Rattle.raft_log_disk.specs.Disk.{Disk, IsIn, IsNamed}
use Rattle.raft_log_disk.specs.Image.{Image, IsImage}
use Rattle.raft_log_disk.specs.Text.{Text}
use Rattle.raft_log_pipe.specs.declared.file.File.{File}
use Rattle.raft_log_pipe.specs.declared.pipe.SinglePipe.{SinglePipe}
use Rattle.raft_log_files.specs.Settings.{Settings}
use Rattle.raft_log_files.specs.declared.recovery.RecoveryMode.TheVariants.{TolerateAnyCorruption, TolerateTailCorruption}
use Rattle.raft_log_pipe.specs.Alone.{IsNearlyAlone, IsOnce, Names, directories_of_pipe}
use Rattle.raft_log_pipe.specs.Pipe.{Leaves, Numbered}
use Rattle.raft_log_pipe.specs.Torn.{IsTornAtEnd}
use Rattle.raft_log_recovery.specs.declared.scan.FileKind.TheVariants.{Log}
use Rattle.raft_log_recovery.specs.declared.scan.FileName.{FileName}
use Rattle.raft_log_recovery.specs.Opening.{AnyAligned, batches_of}
use Rattle.raft_log_recovery.specs.Queue.{AnyRefused, AreOpen}
use Rattle.raft_log_recovery.specs.Scan.{AreFound, OnlyMakes, directories_of}

-- A crash left this image of a disk, in which nothing passes as a record that nobody wrote: another disk has its names and
-- these bytes
pub record IsCrashed (d : Disk) (image : Image) (e : Disk) : Type 0 where
  pub is : IsImage d image
  pub genuine : IsGenuineImage d image
  pub names : e.names ≡ d.names
  pub bytes : (n : ℕ) → (e.file n).bytes ≡ image n

-- an opening finds these files once the directories are there
pub record Finds (directories : List Text) (queue : LogQueue) (e made : Disk) (names : List FileName) (fs : List File) : Type 0 where
  pub makes : OnlyMakes directories e made
  pub found : AreFound made (Log queue) directories names
  pub opened : AreOpen made directories queue names fs

-- whatever a crash leaves of a disk, the files that an opening finds there read as these batches and a front of the others
abbrev pub OpensWith : List Text → LogQueue → Disk → Numbered → Numbered → Type 0
OpensWith directories queue d synced unsynced =
    (image : Image) (e made : Disk) (names : List FileName) (fs : List File) → IsCrashed d image e → Finds directories queue e made names fs
    → (k : ℕ) × (batches_of queue made fs ≡ synced ++ take k unsynced)

-- so it is of a pipe whose files are the last ones of its queue
abbrev pub CrashedPipesAreFound : Type 0
CrashedPipesAreFound =
    (p : SinglePipe) (d : Disk) (synced unsynced : Numbered) → IsNamed d → IsNearlyAlone p d → Leaves p d synced unsynced
    → OpensWith (directories_of_pipe p) p.queue d synced unsynced

-- ---- torn tails

-- A file before the last one has no bytes: no torn tail, but a hole. An opening that tolerates any fault leaves one so where its
-- header was broken
abbrev pub HasHole : SinglePipe → Disk → Type 0
HasHole p d = (f : File) × IsIn f p.older.items × ((d.file f.handle.0).bytes ≡ [])

-- so is each image of it
abbrev pub HasLastingHole : SinglePipe → Disk → Type 0
HasLastingHole p d = (f : File) × IsIn f p.older.items × ((d.file f.handle.0).bytes ≡ []) × ((image : Image) → IsImage d image → image f.handle.0 ≡ [])

-- Of a pipe of which a crash leaves at most the newest file torn, an opening that tolerates a torn tail refuses no fault of a file
-- that it finds, and no header says an alignment; but where the pipe has a hole
abbrev pub TornTailsAreOpened : Type 0
TornTailsAreOpened =
    (p : SinglePipe) (d : Disk) → IsNamed d → IsTornAtEnd p d
    → (image : Image) (e made : Disk) (names : List FileName) → IsCrashed d image e → OnlyMakes (directories_of_pipe p) e made → AreFound made (Log p.queue) (directories_of_pipe p) names
    → AnyRefused TolerateTailCorruption (directories_of_pipe p) p.queue names made ⊎ AnyAligned (directories_of_pipe p) p.queue names made → HasLastingHole p d

-- ---- what clients need of openings

-- no fault of a file is refused where any is tolerated
abbrev pub AnyFaultIsTolerated : Type 0
AnyFaultIsTolerated = (directories : List Text) (queue : LogQueue) (names : List FileName) (d : Disk) → AnyRefused TolerateAnyCorruption directories queue names d → ⊥

-- without a spill directory no two log files have one number
abbrev pub OneDirectoryIsEnough : Type 0
OneDirectoryIsEnough = (settings : Settings) (names : Names) (queue : LogQueue) → settings.spill_dir ≡ None → IsOnce names (directories_of settings) queue
