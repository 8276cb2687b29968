-- What a reader of log files has still to answer.
use Rattle.std.specs.Prelude.{◌≡◌, ◌⊎◌, ℕ, ◌+◌, ◌-◌, ◌^◌, min, List, [], ◌∷◌, ◌++◌, map, Option, Some, None, Result, Ok, Err}
use Rattle.std.specs.List.{AllByRecursion, flat_map}
use Rattle.std.specs.Option.{option_map}
use Rattle.raft_log_records.specs.declared.file_id.FileId.{FileId}
use Rattle.raft_log_records.specs.declared.item.EntryIndex.{EntryIndex}
use Rattle.raft_log_records.specs.declared.item.LogItem.{LogItem}
use Rattle.raft_log_records.specs.Item.{Item, item_of, items_of}
use Rattle.raft_log_disk.specs.Text.{Text}
use Rattle.raft_log_disk.specs.Disk.{Disk, fd_of}
use Rattle.raft_log_disk.specs.Cause.{Meter}
use Rattle.raft_log_files.specs.declared.error.Error.{Error}
use Rattle.raft_log_files.specs.declared.error.Error.TheVariants.{Io, Corruption, Memory, Other}
use Rattle.raft_log_files.specs.declared.error.DiskRefusal.TheVariants.{Refused}
use Rattle.raft_log_files.specs.declared.error.OtherFault.TheVariants.{FileGone}
use Rattle.raft_log_file.specs.Errors.{IsReadFault}
use Rattle.raft_log_file.specs.Reading.{FileBatch}
use Rattle.raft_log_file.specs.Reader.{IsReader, left}
use Rattle.raft_log_recovery.specs.Repair.{batches_in, fault_in, record_fault}
use Rattle.raft_log_items.specs.Found.{Found, found_of}
use Rattle.raft_log_items.specs.declared.reader.LogItemReader.{LogItemReader}

-- what is left of a file: items, and the refusal that stands behind them, if there is one
pub record FileItems : Type 0 where
  pub items : List (Item EntryIndex)
  pub fault : Option Error

-- nothing is left, and no refusal stands there
abbrev pub nothing : FileItems
nothing = record { items = []; fault = None }

-- the items of batches
abbrev pub items_in : List FileBatch → List (Item EntryIndex)
items_in batches = flat_map (λ b. b.items) batches

-- what the file of a number has: the items of its whole batches, then its first fault. A file that is gone has a refusal alone
abbrev pub items_at : Disk → FileId → Option ℕ → FileItems
items_at d id None = record { items = []; fault = Some (Other FileGone) }
items_at d id (Some fd) = record {
  items = items_in (batches_in id (d.file fd).bytes);
  fault = option_map (λ f. Corruption f) (fault_in id (d.file fd).bytes);
}

-- what a log file has
abbrev pub file_items : Disk → Found → FileItems
file_items d found = items_at d found.0 (fd_of d.names found.1)

-- what is left of the file that is read
abbrev pub current : LogItemReader → Disk → FileItems
current r d = record {
  items = items_of r.items.items ++ items_in (left r.batches d).batches;
  fault = option_map (λ f. Corruption f) (record_fault (left r.batches d).fault);
}

-- what is left of all files: of the one that is read, and of those behind it
abbrev pub files_left : LogItemReader → Disk → List FileItems
files_left r d = current r d ∷ map (file_items d) (map found_of r.files.items)

-- what the reader holds of the file that is read stands there
abbrev pub IsReading : LogItemReader → Disk → Type 0
IsReading r d = IsReader r.batches d

-- ---- answers

-- nothing is left of the file
abbrev pub IsRead : FileItems → Type 0
IsRead file = (file.items ≡ []) × (file.fault ≡ None)

-- files of which nothing is left are passed over
abbrev pub Passes : List FileItems → List FileItems → Type 0
Passes before rest = (passed : List FileItems) × AllByRecursion IsRead passed × (before ≡ passed ++ rest)

-- the file with an item more at its front
abbrev pub with_item : Item EntryIndex → FileItems → FileItems
with_item item file = record { items = item ∷ file.items; fault = file.fault }

-- the refusal stands behind the last item of the file
abbrev pub StandsAt : FileItems → Error → Type 0
StandsAt file e = (file.items ≡ []) × (file.fault ≡ Some e)

-- a file can't be read: memory is missing, its reads are refused, or it is gone
abbrev pub IsUnread : Disk → Meter → Error → Type 0
IsUnread d meter e = (fd : ℕ) × IsReadFault d meter fd e

-- or not opened: memory is missing, or the call was refused, and counted
abbrev pub IsRefused : Meter → Meter → Error → Type 0
IsRefused old new e = (e ≡ Memory) ⊎ ((e ≡ Io Refused) × (new.refusals ≡ min (old.refusals + 1) (2 ^ 64 - 1)))

-- why the rest of a file is left
abbrev pub Fails : Disk → Meter → Meter → FileItems → Error → Type 0
Fails d old new file e = StandsAt file e ⊎ (IsUnread d new e ⊎ IsRefused old new e)

-- What a call answers that finds this left and leaves that: the first item, which goes; nothing, where no file has any
-- left; or why the rest of the first file is left, and then that file goes
abbrev pub NextItem : Result (Option LogItem) Error → Disk → Meter → Meter → List FileItems → List FileItems → Type 0
NextItem (Ok (Some item)) d old new before after =
    (file : FileItems) × (rest : List FileItems) × Passes before (with_item (item_of item) file ∷ rest) × (after ≡ file ∷ rest)
NextItem (Ok None) d old new before after = Passes before [] × Passes after []
NextItem (Err e) d old new before after =
    (file : FileItems) × (rest : List FileItems) × Passes before (file ∷ rest) × Fails d old new file e × Passes after rest

-- the same within the file that is read
abbrev pub NextOfFile : Result (Option LogItem) Error → Disk → Meter → FileItems → FileItems → Type 0
NextOfFile (Ok (Some item)) d meter before after = before ≡ with_item (item_of item) after
NextOfFile (Ok None) d meter before after = IsRead before
NextOfFile (Err e) d meter before after = StandsAt before e ⊎ IsUnread d meter e

-- why a file isn't opened: it is gone, or the call was refused
abbrev pub IsUnopened : Disk → Text → Meter → Meter → Error → Type 0
IsUnopened d path old new e = ((e ≡ Other FileGone) × (fd_of d.names path ≡ None)) ⊎ IsRefused old new e
