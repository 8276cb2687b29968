-- In one directory no two files have one number, so an engine that is opened stands alone.
use Rattle.std.proofs.Common.{◌≡◌, List, false, refl, ap, subst, ◌∙◌}
use Rattle.raft_log_host.specs.Mirror.{host_disk, host_meter}
use Rattle.raft_log_disk.specs.Text.{Text}
use Rattle.raft_log_engine.specs.Left.{answers_on}
use Rattle.raft_log_engine.specs.declared.fault.EngineFault.TheVariants as fault
use Rattle.raft_log_files.specs.declared.error.CorruptionFault.{CorruptionFault}
use Rattle.raft_log_files.specs.declared.error.Error.TheVariants.{Corruption}
use Rattle.raft_log_records.specs.declared.file_id.LogQueue.{LogQueue}
use Rattle.raft_log_records.specs.declared.size.ReadableSize.{ReadableSize}
use Rattle.raft_log_records.specs.declared.version.Version.{Version}
use Rattle.raft_log_disk.specs.declared.format.LogFileFormat.{LogFileFormat}
use Rattle.raft_log_files.specs.declared.recovery.RecoveryMode.{RecoveryMode}
use Rattle.raft_log_engine.specs.Log.{main_directory}
use Rattle.raft_log_engine.specs.Opening.{CantBeOpened, HasHolesIn, IsFoundAgain, IsLeftByOpening}
use Rattle.raft_log_engine.specs.Reopened.{OpensInTail}
use Rattle.raft_log_engine.proofs.Corrupt.{along}
use Rattle.raft_log_engine.proofs.Logs.{leaves_only}
use Rattle.std.proofs.Common.{Option}
use Rattle.raft_log_disk.specs.MemorySystem.{is_bounded_in}
use Rattle.raft_log_files.specs.Settings.{settings_fault, settings_of}
use Rattle.raft_log_files.specs.declared.error.OtherFault.{OtherFault}
use Rattle.raft_log_engine.specs.Unopened.{IsOpeningFault}
use denote.Param.Send.{sendable}
use Rattle.raft_log_host.proofs.Sent.{files_sent, files_shared}
use Rattle.raft_log_files.specs.declared.recovery.RecoveryMode.TheVariants.{TolerateTailCorruption}
use Rattle.raft_host_log.proofs.log.HostLog.open.Goals as goal

pub invariant_of-result : goal.invariant_of-result
invariant_of-result c = record {
  directories = c.in-Ok-open_alone.ensures.directories ∙ c.in-Ok.ensures.directories;
  sound = λ on. c.in-Ok-open_alone.ensures.sound;
  alone = λ on. c.in-Ok-open_alone.ensures.alone (c.in-Ok.ensures.once (host_disk c.args.files.files).names);
  in_tail = subst (λ (l : List Text). OpensInTail l (host_disk c.in-Ok-open_alone.engine.files) c.in-Ok-open_alone.engine.pipes) (c.in-Ok-open_alone.ensures.directories ∙ c.in-Ok.ensures.directories)
      (c.in-Ok-open_alone.ensures.opens_in_tail (c.in-Ok-open_alone.ensures.alone (c.in-Ok.ensures.once (host_disk c.args.files.files).names)));
}

pub returns-in-Ok-open_alone-clause-leaves : goal.returns-in-Ok-open_alone-clause-leaves
returns-in-Ok-open_alone-clause-leaves c =
    let alone = c.in-Ok-open_alone.ensures.alone (c.in-Ok.ensures.once (host_disk c.args.files.files).names) in
    leaves_only host_disk c.args.files.settings c.in-Ok-open_alone.engine false (answers_on host_disk c.in-Ok-open_alone.engine) (c.in-Ok-open_alone.ensures.directories ∙ c.in-Ok.ensures.directories) refl
    (c.in-Ok-open_alone.ensures.opens alone)

pub returns-in-Err-clause-err : goal.returns-in-Err-clause-err
returns-in-Err-clause-err c =
    subst (λ (m : RecoveryMode). IsLeftByOpening m (main_directory c.args.files.settings) (host_disk c.args.files.files) (host_disk c.in-Err.field-0.files)) c.in-Ok.ensures.mode
    (subst (λ (l : List Text). IsLeftByOpening c.in-Ok.config.recovery_mode l (host_disk c.args.files.files) (host_disk c.in-Err.field-0.files)) c.in-Ok.ensures.directories c.in-Err.ensures.err)

pub returns-in-Err-clause-reads : goal.returns-in-Err-clause-reads
returns-in-Err-clause-reads c =
    subst (λ (m : RecoveryMode). IsFoundAgain m (main_directory c.args.files.settings) (host_disk c.args.files.files) (host_disk c.in-Err.field-0.files)) c.in-Ok.ensures.mode
    (subst (λ (l : List Text). IsFoundAgain c.in-Ok.config.recovery_mode l (host_disk c.args.files.files) (host_disk c.in-Err.field-0.files)) c.in-Ok.ensures.directories c.in-Err.ensures.reads)

pub returns-in-Err-clause-corrupt : goal.returns-in-Err-clause-corrupt
returns-in-Err-clause-corrupt c =
    along (λ m l. (f : CorruptionFault) → c.in-Err.field-0.fault ≡ fault.Log (Corruption f) → (queue : LogQueue) × CantBeOpened m l queue (host_disk c.args.files.files)) c.in-Ok.ensures.mode c.in-Ok.ensures.directories c.in-Err.ensures.corrupt

pub returns-in-Ok-open_alone-clause-opens_in_tail : goal.returns-in-Ok-open_alone-clause-opens_in_tail
returns-in-Ok-open_alone-clause-opens_in_tail c =
    let alone = c.in-Ok-open_alone.ensures.alone (c.in-Ok.ensures.once (host_disk c.args.files.files).names) in
    subst (λ (l : List Text). OpensInTail l (host_disk c.in-Ok-open_alone.engine.files) c.in-Ok-open_alone.engine.pipes) (c.in-Ok-open_alone.ensures.directories ∙ c.in-Ok.ensures.directories) (c.in-Ok-open_alone.ensures.opens_in_tail alone)

-- ---- as the settings say

-- the format of new files
abbrev plain_format : Version → LogFileFormat
plain_format version = record { version = version; alignment = 0 }

pub returns-in-Ok-open_alone-clause-set : goal.returns-in-Ok-open_alone-clause-set
returns-in-Ok-open_alone-clause-set c =
    let set = c.in-Ok-open_alone.ensures.settings in
    let sizes = c.in-Ok.ensures.sizes in (
      (set.0.0 ∙ ap (λ (x : ReadableSize). x.0) sizes.0, set.0.1 ∙ ap plain_format sizes.1),
      (set.1.0 ∙ ap (λ (x : ReadableSize). x.0) sizes.0, set.1.1 ∙ ap plain_format sizes.1),
    )

pub returns-in-Ok-open_alone-clause-holes : goal.returns-in-Ok-open_alone-clause-holes
returns-in-Ok-open_alone-clause-holes c =
    subst (λ (m : RecoveryMode). HasHolesIn m (host_disk c.in-Ok-open_alone.engine.files) c.in-Ok-open_alone.engine.pipes) c.in-Ok.ensures.mode c.in-Ok-open_alone.ensures.holes

-- ---- why it is refused

pub returns-in-Err-clause-cause : goal.returns-in-Err-clause-cause
returns-in-Err-clause-cause c =
    let d = host_disk c.args.files.files in
    let left = host_disk c.in-Err.field-0.files in
    let free = is_bounded_in c.args.files.files.memory in
    let a = host_meter c.args.files.files in
    let b = host_meter c.in-Err.field-0.files in
    subst (λ (o : Option OtherFault). IsOpeningFault o TolerateTailCorruption (main_directory c.args.files.settings) d left free a b c.in-Err.field-0.fault) c.in-Ok.ensures.fault
    (along (λ m l. IsOpeningFault (settings_fault (settings_of c.in-Ok.config)) m l d left free a b c.in-Err.field-0.fault) c.in-Ok.ensures.mode c.in-Ok.ensures.directories c.in-Err.ensures.cause)

pub open_alone-requires-send-F : goal.open_alone-requires-send-F
open_alone-requires-send-F c κs = search (sendable, files_sent)

pub open_alone-requires-sync-F : goal.open_alone-requires-sync-F
open_alone-requires-sync-F c κs = search (sendable, files_shared)
