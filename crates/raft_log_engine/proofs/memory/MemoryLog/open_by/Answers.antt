-- In one directory no two files have one number, so an engine that is opened stands alone.
use Rattle.std.proofs.Common.{◌≡◌, List, false, inl, refl, ap, subst, ◌∙◌}
use Rattle.raft_log_disk.specs.MemorySystem.{disk_in}
use Rattle.raft_log_disk.specs.Text.{Text}
use Rattle.raft_log_engine.specs.Left.{answers_on}
use Rattle.raft_log_engine.specs.declared.fault.EngineFault.TheVariants as fault
use Rattle.raft_log_files.specs.declared.error.CorruptionFault.{CorruptionFault}
use Rattle.raft_log_files.specs.declared.error.Error.TheVariants.{Corruption}
use Rattle.raft_log_records.specs.declared.file_id.LogQueue.{LogQueue}
use Rattle.raft_log_records.specs.declared.size.ReadableSize.{ReadableSize}
use Rattle.raft_log_records.specs.declared.version.Version.{Version}
use Rattle.raft_log_disk.specs.declared.format.LogFileFormat.{LogFileFormat}
use Rattle.raft_log_files.specs.declared.recovery.RecoveryMode.{RecoveryMode}
use Rattle.raft_log_engine.specs.Log.{main_directory}
use Rattle.raft_log_engine.specs.Opening.{CantBeOpened, HasHolesIn, IsFoundAgain, IsFoundContent, IsLeftByOpening}
use Rattle.raft_log_engine.specs.Reopened.{OpensInTail}
use Rattle.raft_log_engine.proofs.Corrupt.{along}
use Rattle.raft_log_engine.proofs.Logs.{leaves_only}
use Rattle.std.proofs.Common.{Option}
use Rattle.raft_log_disk.specs.MemorySystem.{is_bounded_in, meter_in}
use Rattle.raft_log_files.specs.Settings.{settings_fault, settings_of}
use Rattle.raft_log_files.specs.declared.error.OtherFault.{OtherFault}
use Rattle.raft_log_engine.specs.Unopened.{IsOpeningFault}
use Rattle.raft_log_engine.proofs.Unopened.{free_fault}
use Rattle.raft_log_disk.proofs.RefusalLemmas.{no_more_same}
use Rattle.raft_log_recovery.proofs.DirectoryLemmas.{makes_none}
use Rattle.raft_log_files.specs.declared.recovery.RecoveryMode.TheVariants.{TolerateTailCorruption}
use Rattle.raft_log_engine.proofs.memory.MemoryLog.open_by.Goals as goal

pub invariant_of-result : goal.invariant_of-result
invariant_of-result g c = record {
  directories = c.in-Ok-open_by.ensures.directories ∙ c.in-Ok.ensures.directories;
  sound = λ on. c.in-Ok-open_by.ensures.sound;
  alone = λ on. c.in-Ok-open_by.ensures.alone (c.in-Ok.ensures.once (disk_in c.args.files.files).names);
  in_tail = subst (λ (l : List Text). OpensInTail l (disk_in c.in-Ok-open_by.engine.files) c.in-Ok-open_by.engine.pipes) (c.in-Ok-open_by.ensures.directories ∙ c.in-Ok.ensures.directories)
      (c.in-Ok-open_by.ensures.opens_in_tail (c.in-Ok-open_by.ensures.alone (c.in-Ok.ensures.once (disk_in c.args.files.files).names)));
}

pub returns-in-Ok-open_by-clause-leaves : goal.returns-in-Ok-open_by-clause-leaves
returns-in-Ok-open_by-clause-leaves g c =
    let alone = c.in-Ok-open_by.ensures.alone (c.in-Ok.ensures.once (disk_in c.args.files.files).names) in
    leaves_only disk_in c.args.files.settings c.in-Ok-open_by.engine false (answers_on disk_in c.in-Ok-open_by.engine) (c.in-Ok-open_by.ensures.directories ∙ c.in-Ok.ensures.directories) refl
    (c.in-Ok-open_by.ensures.opens alone)

pub returns-in-Err-clause-err : goal.returns-in-Err-clause-err
returns-in-Err-clause-err g c =
    subst (λ (m : RecoveryMode). IsLeftByOpening m (main_directory c.args.files.settings) (disk_in c.args.files.files) (disk_in c.in-Err.field-0.files)) c.in-Ok.ensures.mode
    (subst (λ (l : List Text). IsLeftByOpening c.in-Ok.config.recovery_mode l (disk_in c.args.files.files) (disk_in c.in-Err.field-0.files)) c.in-Ok.ensures.directories c.in-Err.ensures.err)

pub returns-in-Err-clause-reads : goal.returns-in-Err-clause-reads
returns-in-Err-clause-reads g c =
    subst (λ (m : RecoveryMode). IsFoundAgain m (main_directory c.args.files.settings) (disk_in c.args.files.files) (disk_in c.in-Err.field-0.files)) c.in-Ok.ensures.mode
    (subst (λ (l : List Text). IsFoundAgain c.in-Ok.config.recovery_mode l (disk_in c.args.files.files) (disk_in c.in-Err.field-0.files)) c.in-Ok.ensures.directories c.in-Err.ensures.reads)

pub returns-in-Err-clause-corrupt : goal.returns-in-Err-clause-corrupt
returns-in-Err-clause-corrupt g c =
    along (λ m l. (f : CorruptionFault) → c.in-Err.field-0.fault ≡ fault.Log (Corruption f) → (queue : LogQueue) × CantBeOpened m l queue (disk_in c.args.files.files)) c.in-Ok.ensures.mode c.in-Ok.ensures.directories c.in-Err.ensures.corrupt

pub returns-in-Ok-open_by-clause-opens_in_tail : goal.returns-in-Ok-open_by-clause-opens_in_tail
returns-in-Ok-open_by-clause-opens_in_tail g c =
    let alone = c.in-Ok-open_by.ensures.alone (c.in-Ok.ensures.once (disk_in c.args.files.files).names) in
    subst (λ (l : List Text). OpensInTail l (disk_in c.in-Ok-open_by.engine.files) c.in-Ok-open_by.engine.pipes) (c.in-Ok-open_by.ensures.directories ∙ c.in-Ok.ensures.directories) (c.in-Ok-open_by.ensures.opens_in_tail alone)

-- ---- as the settings say

-- the format of new files
abbrev plain_format : Version → LogFileFormat
plain_format version = record { version = version; alignment = 0 }

pub returns-in-Ok-open_by-clause-set : goal.returns-in-Ok-open_by-clause-set
returns-in-Ok-open_by-clause-set g c =
    let set = c.in-Ok-open_by.ensures.settings in
    let sizes = c.in-Ok.ensures.sizes in (
      (set.0.0 ∙ ap (λ (x : ReadableSize). x.0) sizes.0, set.0.1 ∙ ap plain_format sizes.1),
      (set.1.0 ∙ ap (λ (x : ReadableSize). x.0) sizes.0, set.1.1 ∙ ap plain_format sizes.1),
    )

pub returns-in-Ok-open_by-clause-holes : goal.returns-in-Ok-open_by-clause-holes
returns-in-Ok-open_by-clause-holes g c =
    subst (λ (m : RecoveryMode). HasHolesIn m (disk_in c.in-Ok-open_by.engine.files) c.in-Ok-open_by.engine.pipes) c.in-Ok.ensures.mode c.in-Ok-open_by.ensures.holes

-- ---- why it is refused

pub returns-in-Err-clause-cause : goal.returns-in-Err-clause-cause
returns-in-Err-clause-cause g c =
    let d = disk_in c.args.files.files in
    let left = disk_in c.in-Err.field-0.files in
    let free = is_bounded_in c.args.files.files in
    let a = meter_in c.args.files.files in
    let b = meter_in c.in-Err.field-0.files in
    subst (λ (o : Option OtherFault). IsOpeningFault o TolerateTailCorruption (main_directory c.args.files.settings) d left free a b c.in-Err.field-0.fault) c.in-Ok.ensures.fault
    (along (λ m l. IsOpeningFault (settings_fault (settings_of c.in-Ok.config)) m l d left free a b c.in-Err.field-0.fault) c.in-Ok.ensures.mode c.in-Ok.ensures.directories c.in-Err.ensures.cause)

pub returns-in-Err-clause-taken : goal.returns-in-Err-clause-taken
returns-in-Err-clause-taken g c = λ free.
    free_fault TolerateTailCorruption (main_directory c.args.files.settings) (disk_in c.args.files.files) (disk_in c.in-Err.field-0.files) (is_bounded_in c.args.files.files) (meter_in c.args.files.files)
    (meter_in c.in-Err.field-0.files) (settings_fault (settings_of c.args.files.settings)) free c.in-Err.field-0.fault (returns-in-Err-clause-cause g c)

-- ---- as the engine was opened

pub returns-in-Ok-open_by-clause-answers : goal.returns-in-Ok-open_by-clause-answers
returns-in-Ok-open_by-clause-answers g c = along (λ m l. IsFoundContent m l (disk_in c.args.files.files) (answers_on disk_in c.in-Ok-open_by.engine)) c.in-Ok.ensures.mode c.in-Ok.ensures.directories c.in-Ok-open_by.ensures.answers

pub returns-in-Ok-open_by-clause-later : goal.returns-in-Ok-open_by-clause-later
returns-in-Ok-open_by-clause-later g c = c.in-Ok-open_by.ensures.later

pub returns-in-Err-clause-later : goal.returns-in-Err-clause-later
returns-in-Err-clause-later g c = c.in-Err.ensures.later

-- ---- memory was lacking before

pub returns-in_default-clause-err : goal.returns-in_default-clause-err
returns-in_default-clause-err g c = inl (makes_none (main_directory c.args.files.settings) (disk_in c.args.files.files) (disk_in c.args.files.files) refl)

pub returns-in_default-clause-reads : goal.returns-in_default-clause-reads
returns-in_default-clause-reads g c = λ content found. found

pub returns-in_default-clause-later : goal.returns-in_default-clause-later
returns-in_default-clause-later g c = no_more_same (is_bounded_in c.args.files.files) (meter_in c.args.files.files)

pub returns-in_default-clause-taken : goal.returns-in_default-clause-taken
returns-in_default-clause-taken g c = λ free. tt
