-- Which log files an opening finds: those of the last run of numbers that follow one another.
use Rattle.std.specs.Prelude.{◌≡◌, ◌≢◌, ◌⊎◌, ℕ, ◌+◌, ◌-◌, ◌^◌, ◌<◌, ◌≤◌, min, List, [], ◌∷◌, ◌++◌, length, take, drop, map}
use Rattle.std.specs.Prelude.{Option, Some, None, codes, IsPermutation, slice_index, ◌&&◌, if◌then◌else◌}
use Rattle.std.specs.List.{filter_map, list_all}
use Rattle.std.specs.List.Sorted.{IsNonDecreasingBy}
use Rattle.std.specs.Option.{option_map}
use Rattle.raft_log_disk.specs.Text.{Text, same_text}
use Rattle.raft_log_disk.specs.Name.{is_digit, value_of, suffix_of}
use Rattle.raft_log_disk.specs.Disk.{Disk, IsIn, IsFile, listed}
use Rattle.raft_log_disk.specs.Cause.{Meter}
use Rattle.raft_log_files.specs.Settings.{Settings}
use Rattle.raft_log_files.specs.declared.error.Error.{Error}
use Rattle.raft_log_files.specs.declared.error.Error.TheVariants.{Io, Memory, Other}
use Rattle.raft_log_files.specs.declared.error.DiskRefusal.TheVariants.{Refused}
use Rattle.raft_log_files.specs.declared.error.OtherFault.TheVariants.{NotADirectory}
use Rattle.raft_log_recovery.specs.declared.scan.FileKind.{FileKind}
use Rattle.raft_log_recovery.specs.declared.scan.FileKind.TheVariants.{Log, Reserved}
use Rattle.raft_log_recovery.specs.declared.scan.FileName.{FileName}

-- ---- names

-- what the names of such files end in
abbrev pub suffix_in : FileKind → Text
suffix_in (Log queue) = suffix_of queue
suffix_in Reserved = codes ".raftlog.reserved"

-- the number of a name of sixteen digits and the suffix; other names have none
abbrev pub seq_in : FileKind → Text → Option ℕ
seq_in kind name = if list_all is_digit (take 16 name) && same_text (drop 16 name) (suffix_in kind) then Some (value_of (take 16 name)) else None

abbrev pub file_named : FileKind → ℕ → Text → Option FileName
file_named kind path_id name = option_map (λ seq. record { seq = seq; path_id = path_id }) (seq_in kind name)

-- the files of these names, in the directory of a number
abbrev pub files_named : FileKind → ℕ → List Text → List FileName
files_named kind path_id names = filter_map (file_named kind path_id) names

-- the files in directories, which have the numbers from one on: of each directory all that it lists, in some order
abbrev pub AreInDirectories : Disk → FileKind → ℕ → List Text → List FileName → Type 0
AreInDirectories d kind path_id [] found = found ≡ []
AreInDirectories d kind path_id (directory ∷ directories) found =
    (names : List Text) × (others : List FileName) × IsPermutation (listed d.names directory) names
    × (found ≡ files_named kind path_id names ++ others) × AreInDirectories d kind (path_id + 1) directories others

-- ---- the last run

-- the number of the file at a place
abbrev pub seq_at : List FileName → ℕ → ℕ
seq_at files i = slice_index (map (λ f. f.seq) files) i

-- from this place on each number is one more than the one before it, and the first one there isn't
pub record IsLastRun (files : List FileName) (start : ℕ) : Type 0 where
  pub run : (i : ℕ) → start ≤ i → i + 1 < length files → seq_at files (i + 1) ≡ seq_at files i + 1
  pub break : 0 < start → seq_at files start ≢ seq_at files (start - 1) + 1
  pub some : 0 < length files → start < length files

-- Of all files in the directories, by rising numbers, those of the last run: files before a gap or a repeat don't count
pub record AreFound (d : Disk) (kind : FileKind) (directories : List Text) (found : List FileName) : Type 0 where
  pub all : List FileName
  pub sorted : List FileName
  pub start : ℕ
  pub in_directories : AreInDirectories d kind 0 directories all
  pub same : IsPermutation all sorted
  pub rising : IsNonDecreasingBy (λ f. f.seq) sorted
  pub last : IsLastRun sorted start
  pub rest : found ≡ drop start sorted

-- ---- directories

-- a second directory counts where it is another
abbrev pub spilled : Text → Option Text → List Text
spilled dir None = []
spilled dir (Some spill) = if same_text spill dir then [] else spill ∷ []

-- the main directory, then the spill directory
abbrev pub directories_of : Settings → List Text
directories_of settings = settings.dir ∷ spilled settings.dir settings.spill_dir

-- nothing changes but that some of these directories are made
pub record OnlyMakes (directories : List Text) (old new : Disk) : Type 0 where
  pub made : List Text
  pub among : (path : Text) → IsIn path made → IsIn path directories
  pub only : new ≡ record old { directories = old.directories ++ made }

abbrev pub AllMade : List Text → Disk → Type 0
AllMade [] d = Unit {0}
AllMade (directory ∷ directories) d = IsIn directory d.directories × AllMade directories d

-- one of these paths is a file
abbrev pub AnyFile : List Text → Disk → Type 0
AnyFile [] d = ⊥
AnyFile (directory ∷ directories) d = IsFile d directory ⊎ AnyFile directories d

-- memory is missing, a directory is a file, or a change was refused and counted
abbrev pub IsScanFault : List Text → Disk → Meter → Meter → Error → Type 0
IsScanFault directories d old new e =
    (e ≡ Memory)
    ⊎ (((e ≡ Other NotADirectory) × AnyFile directories d) ⊎ ((e ≡ Io Refused) × (new.refusals ≡ min (old.refusals + 1) (2 ^ 64 - 1))))

-- memory is missing, or deleting what is kept beside a file was refused and counted
abbrev pub IsDropFault : Meter → Meter → Error → Type 0
IsDropFault old new e = (e ≡ Memory) ⊎ ((e ≡ Io Refused) × (new.refusals ≡ min (old.refusals + 1) (2 ^ 64 - 1)))

-- where nothing is set to refuse, only memory may be missing, or a directory be a file
abbrev pub IsMadeUnless : Error → Type 0
IsMadeUnless e = (e ≡ Memory) ⊎ (e ≡ Other NotADirectory)
