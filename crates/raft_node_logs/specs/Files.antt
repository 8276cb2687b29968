-- A log on files, in a cluster's words.
use Rattle.std.specs.Prelude.{◌≡◌, ◌⊎◌, ℕ, List, Option, Vec, map}
use Rattle.std.specs.String.{string_bytes}
use Rattle.std.specs.declared.alloc.Global.{Global}
use Rattle.raft_cluster_events.specs.declared.event.CrashChoice.{CrashChoice}
use Rattle.raft_cluster_events.specs.declared.event.CrashChoice.TheVariants as choice
use Rattle.raft_cluster_events.specs.declared.event.FileImage.{FileImage}
use Rattle.raft_cluster_events.specs.declared.outcome.CrashRefusal.{CrashRefusal}
use Rattle.raft_cluster_events.specs.declared.outcome.CrashRefusal.TheVariants as crash_refusal
use Rattle.raft_cluster_events.specs.declared.outcome.Stop.{Stop}
use Rattle.raft_cluster_events.specs.declared.outcome.StopCause.{StopCause}
use Rattle.raft_cluster_events.specs.declared.outcome.StopCause.TheVariants as stop_cause
use Rattle.raft_log_disk.specs.Chance.{IsGenuineImage}
use Rattle.raft_log_disk.specs.Image.{seen_image}
use Rattle.raft_log_disk.specs.Cause.{NothingRefuses, RefusesNoMore}
use Rattle.raft_log_disk.specs.MemorySystem.{disk_in, is_bounded_in, meter_in}
use Rattle.raft_log_disk.specs.declared.crash.CrashChoice.{CrashChoice as FileChoice}
use Rattle.raft_log_disk.specs.declared.crash.CrashChoice.TheVariants as file_choice
use Rattle.raft_log_disk.specs.declared.crash.CrashRefusal.{CrashRefusal as FileRefusal}
use Rattle.raft_log_disk.specs.declared.crash.FileBytes.{FileBytes}
use Rattle.raft_log_disk.specs.declared.crash.CrashRefusal.TheVariants as file_refusal
use Rattle.raft_log_engine.specs.Log.{AreFused, IsFoundBy, main_directory}
use Rattle.raft_log_engine.specs.Unopened.{IsOpeningFault, IsUnopenable}
use Rattle.raft_log_engine.specs.declared.fault.EngineFault.{EngineFault}
use Rattle.raft_log_engine.specs.declared.fault.EngineFault.TheVariants as engine_fault
use Rattle.raft_log_engine.specs.declared.memory.LogFiles.{LogFiles}
use Rattle.raft_log_engine.specs.declared.memory.MemoryLog.{MemoryLog}
use Rattle.raft_log_files.specs.declared.error.Error.TheVariants as log_error
use Rattle.raft_log_files.specs.declared.recovery.RecoveryMode.TheVariants.{TolerateTailCorruption}
use Rattle.raft_log_files.specs.Settings.{settings_fault, settings_of}
use Rattle.raft_log_memtables.specs.Content.{Content}
use Rattle.raft_node_logs.specs.Opening.{IsRefusedOpening}

-- the files read as this content, in which nothing passes by chance, and that holds these parts
pub record IsFoundAs (files : LogFiles) (content : Content (List ℕ)) : Type 0 where
  pub genuine : IsGenuineImage (disk_in files.files) (seen_image (disk_in files.files))
  pub found : IsFoundBy files.settings (disk_in files.files) content

-- those of a log, as they are
abbrev pub files_in : MemoryLog → LogFiles
files_in log = record { settings = log.settings; files = log.engine.files }

-- nothing is set to refuse a call of theirs
abbrev pub RefuseNothing : LogFiles → Type 0
RefuseNothing files = NothingRefuses (is_bounded_in files.files) (meter_in files.files)

-- behind some calls no more is set to refuse changing calls: the fuse is what those calls left of it, or there is none
abbrev pub HasFuseOf : LogFiles → LogFiles → Type 0
HasFuseOf old new = RefusesNoMore (is_bounded_in old.files) (is_bounded_in new.files) (meter_in old.files) (meter_in new.files)

-- an opened log has the fuse of its files
abbrev pub IsOpenedLog : LogFiles → MemoryLog → Type 0
IsOpenedLog files log = HasFuseOf files (files_in log)

-- they refuse each changing call from this one on, and are otherwise as they were
pub record AreFusedFiles (old : LogFiles) (first_refused : Option ℕ) (new : LogFiles) : Type 0 where
  pub settings : new.settings ≡ old.settings
  pub files : AreFused disk_in meter_in old.files first_refused new.files

abbrev pub cause_of_log : EngineFault → StopCause
cause_of_log (engine_fault.Log (log_error.Io met)) = stop_cause.Io
cause_of_log (engine_fault.Log log_error.TryAgain) = stop_cause.TryAgain
cause_of_log (engine_fault.Log log_error.Memory) = stop_cause.Memory
cause_of_log other = stop_cause.Other

-- ---- why they aren't opened

abbrev pub cause_of_refusal : FileRefusal → StopCause
cause_of_refusal file_refusal.NotAnImage = stop_cause.Other
cause_of_refusal file_refusal.ByChance = stop_cause.Other
cause_of_refusal file_refusal.Memory = stop_cause.Memory

-- they show by chance what nobody wrote, or memory was missing for looking at that
abbrev pub IsByChance : LogFiles → StopCause → LogFiles → Type 0
IsByChance old cause new = (new ≡ old) × ((cause ≡ stop_cause.Memory)
    ⊎ (cause ≡ stop_cause.Other) × (IsGenuineImage (disk_in old.files) (seen_image (disk_in old.files)) → ⊥))

-- their log isn't opened for this fault, which has its own cause
pub record HasOpeningFault (old : LogFiles) (cause : StopCause) (new : LogFiles) : Type 0 where
  pub fault : EngineFault
  pub named : cause ≡ cause_of_log fault
  pub caused : IsOpeningFault (settings_fault (settings_of old.settings)) TolerateTailCorruption (main_directory old.settings)
      (disk_in old.files) (disk_in new.files) (is_bounded_in old.files) (meter_in old.files) (meter_in new.files) fault
  pub free : NothingRefuses (is_bounded_in old.files) (meter_in old.files)
      → IsUnopenable (settings_fault (settings_of old.settings)) TolerateTailCorruption (main_directory old.settings) (disk_in old.files) (disk_in new.files) fault
  pub later : HasFuseOf old new

abbrev pub IsNotOpened : LogFiles → StopCause → LogFiles → Type 0
IsNotOpened old cause new = IsByChance old cause new ⊎ HasOpeningFault old cause new

abbrev pub AreNotOpened : LogFiles → Stop → LogFiles → Type 0
AreNotOpened old stop new = IsRefusedOpening (λ files content. IsFoundAs files content) (λ before why after. IsNotOpened before why after) old stop new

-- ---- how files are left

-- a file's path and bytes
abbrev pub told_image : FileImage → List ℕ × List ℕ
told_image image = (string_bytes image.path, image.bytes.items)

abbrev pub said_bytes : FileBytes → List ℕ × List ℕ
said_bytes bytes = (string_bytes bytes.path, bytes.bytes.items)

-- in the words of files the choice is this
abbrev pub ChoosesSo : CrashChoice → FileChoice → Type 0
ChoosesSo choice.Least chosen = chosen ≡ file_choice.Least
ChoosesSo choice.Most chosen = chosen ≡ file_choice.Most
ChoosesSo (choice.Bytes images) chosen = (all : Vec FileBytes Global) × (chosen ≡ file_choice.Bytes all) × (map said_bytes all.items ≡ map told_image images)

abbrev pub refusal_in : FileRefusal → CrashRefusal
refusal_in file_refusal.NotAnImage = crash_refusal.NotAnImage
refusal_in file_refusal.ByChance = crash_refusal.ByChance
refusal_in file_refusal.Memory = crash_refusal.Memory
