-- Which log files a path of a file or of a directory stands for.
use Rattle.std.specs.Prelude.{◌≡◌, ◌⊎◌, List, [], ◌∷◌}
use Rattle.raft_log_records.specs.declared.file_id.FileId.{FileId}
use Rattle.raft_log_disk.specs.Text.{Text}
use Rattle.raft_log_disk.specs.Disk.{Disk, IsFile, IsIn}
use Rattle.raft_log_files.specs.declared.error.Error.{Error}
use Rattle.raft_log_files.specs.declared.error.Error.TheVariants.{Memory}
use Rattle.raft_log_items.specs.Found.{AreLogFiles, Found, IsFileFault, IsLogPath}

-- no directory has this path
abbrev pub IsNoDirectory : Disk → Text → Type 0
IsNoDirectory d path = IsIn path d.directories → ⊥

-- the one log file that the path of a file names
abbrev pub IsLogFile : Disk → Text → List Found → Type 0
IsLogFile d path found = (id : FileId) × IsFile d path × IsLogPath path id × (found ≡ (id, path) ∷ [])

-- of a directory all its log files, of another path the one that it names
abbrev pub StandsFor : Disk → Text → List Found → Type 0
StandsFor d path found = (IsIn path d.directories × AreLogFiles d path found) ⊎ (IsNoDirectory d path × IsLogFile d path found)

-- why a path stands for none: no file has it, or its last part is no log file's name. Else memory is missing
abbrev pub IsPathFault : Disk → Text → Error → Type 0
IsPathFault d path e = (IsIn path d.directories × (e ≡ Memory)) ⊎ (IsNoDirectory d path × IsFileFault d path e)
