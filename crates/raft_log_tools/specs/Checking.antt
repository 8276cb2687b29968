-- What a check of a directory tells: of each group the last index before its first hole.
use Rattle.std.specs.Prelude.{◌≡◌, ◌⊎◌, ◌↔◌, ℕ, List, [], ◌∷◌, map, Option, Some}
use Rattle.std.specs.List.{flat_map}
use Rattle.std.specs.List.Sorted.{IsStrictlySortedBy}
use Rattle.std.specs.Option.{option_or}
use Rattle.std.specs.Ordering.{nat_cmp}
use Rattle.raft_log_records.specs.declared.item.EntryIndex.{EntryIndex}
use Rattle.raft_log_records.specs.declared.file_id.LogQueue.{LogQueue}
use Rattle.raft_log_records.specs.Item.{Item}
use Rattle.raft_log_disk.specs.Text.{Text}
use Rattle.raft_log_disk.specs.Disk.{Disk, IsIn}
use Rattle.raft_log_disk.specs.Cause.{Meter}
use Rattle.raft_log_files.specs.declared.error.ArgumentFault.TheVariants.{NotADirectory}
use Rattle.raft_log_files.specs.declared.error.Error.{Error}
use Rattle.raft_log_files.specs.declared.error.Error.TheVariants.{InvalidArgument}
use Rattle.raft_log_pipe.specs.Caused.{IsCaused}
use Rattle.raft_log_pipe.specs.Pipe.{id_of}
use Rattle.raft_log_recovery.specs.declared.scan.FileKind.TheVariants.{Log}
use Rattle.raft_log_recovery.specs.declared.scan.FileName.{FileName}
use Rattle.raft_log_recovery.specs.Caused.{AnyUnreadable, IsRefusal}
use Rattle.raft_log_recovery.specs.Queue.{path_of}
use Rattle.raft_log_recovery.specs.Scan.{AreFound}
use Rattle.raft_log_items.specs.Found.{Found}
use Rattle.raft_log_items.specs.Holes.{hole_in, written_by}
use Rattle.raft_log_items.specs.Items.{file_items}
use Rattle.raft_log_tools.specs.Paths.{IsNoDirectory}

-- ---- what the files of a queue say

-- the log file of a name that was found
abbrev pub found_at : List Text → LogQueue → FileName → Found
found_at directories queue name = (id_of queue name.seq, path_of directories queue name)

-- of each file the items of its whole batches, up to its first fault
abbrev pub items_of_files : Disk → List Text → LogQueue → List FileName → List (Item EntryIndex)
items_of_files d directories queue names = flat_map (λ name. (file_items d (found_at directories queue name)).items) names

-- these are the items of the files that an opening finds of a queue
pub record AreItemsOf (d : Disk) (directories : List Text) (queue : LogQueue) (items : List (Item EntryIndex)) : Type 0 where
  pub names : List FileName
  pub found : AreFound d (Log queue) directories names
  pub all : items ≡ items_of_files d directories queue names

-- ---- holes

-- the first hole of a group: the rewrite queue's, if it has one, else the append queue's
abbrev pub first_hole : List (Item EntryIndex) → List (Item EntryIndex) → ℕ → Option ℕ
first_hole rewrite append group = option_or (hole_in (written_by group rewrite)) (hole_in (written_by group append))

-- just the groups of which an index is told, rising, each once with it
pub record AreTold (told : ℕ → Option ℕ) (holes : List (ℕ × ℕ)) : Type 0 where
  pub rising : IsStrictlySortedBy nat_cmp (map (λ hole. hole.0) holes)
  pub exactly : (group index : ℕ) → IsIn (group, index) holes ↔ (told group ≡ Some index)

-- ---- refusals

-- reads are refused of a file that an opening finds
abbrev pub AnyFoundUnreadable : Disk → List Text → Meter → Type 0
AnyFoundUnreadable d directories meter = (queue : LogQueue) × (names : List FileName) × AreFound d (Log queue) directories names × AnyUnreadable directories queue names meter

-- memory is missing, or a call on a file was refused
abbrev pub IsFileRefusal : Disk → List Text → (bounded : Type 0) → Meter → Meter → Error → Type 0
IsFileRefusal d directories bounded old new e = IsCaused (IsRefusal bounded ⊥ old new ⊎ AnyFoundUnreadable d directories old) ⊥ ⊥ ⊥ e

-- why a check tells nothing: there is no such directory, memory is missing, or a call on a file was refused
abbrev pub IsCheckFault : Disk → Text → (bounded : Type 0) → Meter → Meter → Error → Type 0
IsCheckFault d directory bounded old new e =
    ((e ≡ InvalidArgument NotADirectory) × IsNoDirectory d directory) ⊎ (IsIn directory d.directories × IsFileRefusal d (directory ∷ []) bounded old new e)
