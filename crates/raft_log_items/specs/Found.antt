-- Which log files a path stands for.
use Rattle.std.specs.Prelude.{◌≡◌, ◌⊎◌, ℕ, false, List, ◌∷◌, ◌++◌, Option, Some, None, IsPermutation, string_bytes}
use Rattle.std.specs.List.{filter_map}
use Rattle.std.specs.List.Sorted.{IsNonDecreasingBy}
use Rattle.std.specs.Option.{option_map}
use Rattle.raft_log_records.specs.declared.file_id.FileId.{FileId}
use Rattle.raft_log_records.specs.declared.file_id.LogQueue.{LogQueue}
use Rattle.raft_log_records.specs.declared.file_id.LogQueue.TheVariants.{Append, Rewrite}
use Rattle.raft_log_disk.specs.Text.{Text, has_slash}
use Rattle.raft_log_disk.specs.Disk.{Disk, IsFile, IsIn, listed}
use Rattle.raft_log_files.specs.declared.error.ArgumentFault.TheVariants.{NotADirectory, NotAFile, NotALogFile}
use Rattle.raft_log_files.specs.declared.error.Error.{Error}
use Rattle.raft_log_files.specs.declared.error.Error.TheVariants.{InvalidArgument, Memory}
use Rattle.raft_log_recovery.specs.declared.scan.FileKind.TheVariants.{Log}
use Rattle.raft_log_recovery.specs.Scan.{seq_in}
use Rattle.raft_log_items.specs.declared.found.LogFile.{LogFile}

-- a log file and its path
abbrev pub Found : Type 0
Found = FileId × Text

abbrev pub found_of : LogFile → Found
found_of file = (file.id, string_bytes file.path)

abbrev pub id_of : LogQueue → ℕ → FileId
id_of queue seq = record { queue = queue; seq = seq }

-- the log file of a queue that has this name: sixteen digits and the queue's suffix. Other names have none
abbrev pub id_in : LogQueue → Text → Option FileId
id_in queue name = option_map (id_of queue) (seq_in (Log queue) name)

-- what stands behind the last slash of a path; the whole of a path without one
abbrev pub IsLastPart : Text → Text → Type 0
IsLastPart path name = (has_slash name ≡ false) × ((path ≡ name) ⊎ ((front : Text) × (path ≡ front ++ 47 ∷ name)))

-- the last part of a path is this log file's name
abbrev pub IsLogPath : Text → FileId → Type 0
IsLogPath path id = (name : Text) × IsLastPart path name × (id_in id.queue name ≡ Some id)

-- or no log file's
abbrev pub IsNoLogPath : Text → Type 0
IsNoLogPath path = (name : Text) × IsLastPart path name × ((queue : LogQueue) → id_in queue name ≡ None)

abbrev pub path_in : Text → Text → Text
path_in directory name = directory ++ 47 ∷ name

abbrev pub file_named : LogQueue → Text → Text → Option Found
file_named queue directory name = option_map (λ id. (id, path_in directory name)) (id_in queue name)

-- the log files of a queue that have these names in a directory: other names are passed over
abbrev pub log_files : LogQueue → Text → List Text → List Found
log_files queue directory names = filter_map (file_named queue directory) names

-- all log files of a queue in a directory, by rising numbers
pub record IsQueue (d : Disk) (directory : Text) (queue : LogQueue) (found : List Found) : Type 0 where
  pub names : List Text
  pub listed_are : IsPermutation (listed d.names directory) names
  pub all : IsPermutation (log_files queue directory names) found
  pub rising : IsNonDecreasingBy (λ f. f.0.seq) found

-- all log files of a directory: those of the rewrite queue, then those of the append queue
abbrev pub AreLogFiles : Disk → Text → List Found → Type 0
AreLogFiles d directory found =
    (rewrite : List Found) × (append : List Found) × (found ≡ rewrite ++ append) × IsQueue d directory Rewrite rewrite × IsQueue d directory Append append

-- ---- refusals

-- why no reader is made of a file's path: no file has it, its last part is no log file's name, or memory is missing
abbrev pub IsFileFault : Disk → Text → Error → Type 0
IsFileFault d path e =
    ((e ≡ InvalidArgument NotAFile) × (IsFile d path → ⊥))
    ⊎ (IsFile d path × (((e ≡ InvalidArgument NotALogFile) × IsNoLogPath path) ⊎ (e ≡ Memory)))

-- and of a directory's: it is none, or memory is missing
abbrev pub IsDirectoryFault : Disk → Text → Error → Type 0
IsDirectoryFault d directory e =
    ((e ≡ InvalidArgument NotADirectory) × (IsIn directory d.directories → ⊥)) ⊎ (IsIn directory d.directories × (e ≡ Memory))
