-- Sound settings have the directories and the mode of those that were given.
use Rattle.std.proofs.Common.{◌≡◌, inl, List, Err, refl, subst}
use Rattle.std.specs.Prelude.{IfOk, OnErr}
use Rattle.raft_log_disk.proofs.CauseLemmas.{at_err}
use Rattle.raft_log_disk.specs.Text.{Text}
use Rattle.raft_log_files.specs.declared.error.CorruptionFault.{CorruptionFault}
use Rattle.raft_log_files.specs.declared.error.Error.TheVariants.{Corruption}
use Rattle.raft_log_files.specs.declared.config.Config.{Config}
use Rattle.raft_log_files.specs.Settings.{Settings, settings_fault, settings_of}
use Rattle.raft_log_files.specs.declared.recovery.RecoveryMode.{RecoveryMode}
use Rattle.raft_log_pipe.specs.Alone.{IsOnce}
use Rattle.raft_log_records.specs.declared.file_id.LogQueue.{LogQueue}
use Rattle.raft_log_engine.specs.declared.fault.EngineFault.TheVariants.{Log}
use Rattle.raft_log_engine.specs.Opening.{AreSetAs, CantBeOpened, HasHolesIn, IsFoundAgain, IsLeftByOpening, IsRecoveredAs, KeepsWanted}
use Rattle.raft_log_engine.specs.Reopened.{StandAlone, directories_of_pipes}
use Rattle.raft_log_recovery.proofs.DirectoryLemmas.{makes_none}
use Rattle.raft_log_recovery.specs.Scan.{directories_of}
use Rattle.raft_log_engine.proofs.Corrupt.{along, passed_on, sound_fault, sound_none, sound_refused}
use Rattle.std.proofs.Common.{None}
use Rattle.std.specs.Prelude.{IfErr}
use Rattle.raft_log_disk.proofs.RefusalLemmas.{no_more_same}
use Rattle.raft_log_pipe.proofs.CausedLemmas.{told_cause}
use Rattle.raft_log_engine.specs.declared.fault.EngineFault.{EngineFault}
use Rattle.raft_log_engine.specs.Unopened.{IsOpeningFault}
use Rattle.raft_log_engine.proofs.Unopened.{for_settings, free_opening, unsound_cause}
use Rattle.raft_log_engine.proofs.opening.found_soundly.Goals as goal

pub returns-in_err-sound-clause-err : goal.returns-in_err-sound-clause-err
returns-in_err-sound-clause-err g c =
    let said = directories_of (settings_of c.args.config) in
    let d = g.F.FileSystem.disk c.args.files.now in
    at_err c.from_residual.result (IsLeftByOpening c.args.config.recovery_mode said d d) (inl (makes_none said d d refl))

pub returns-in_err-sound-clause-reads : goal.returns-in_err-sound-clause-reads
returns-in_err-sound-clause-reads g c =
    let said = directories_of (settings_of c.args.config) in
    let d = g.F.FileSystem.disk c.args.files.now in
    at_err c.from_residual.result (IsFoundAgain c.args.config.recovery_mode said d d) (λ content is. is)

pub returns-in_err-sound-clause-corrupt : goal.returns-in_err-sound-clause-corrupt
returns-in_err-sound-clause-corrupt g c =
    let said = directories_of (settings_of c.args.config) in
    let d = g.F.FileSystem.disk c.args.files.now in
    passed_on (λ (f : CorruptionFault). (queue : LogQueue) × CantBeOpened c.args.config.recovery_mode said queue d) c.in_err-sound.field-0.0 c.from_residual.result c.from_residual.ensures.1
    (λ f same. absurd (sound_refused Config (settings_fault (settings_of c.args.config)) c.in_err-sound.field-0.0 c.in_err-sound.ensures.refused f same))

pub returns-in_err-sound-clause-refused : goal.returns-in_err-sound-clause-refused
returns-in_err-sound-clause-refused g c =
    λ f is. (sound_fault Config c.in_err-sound.field-0.0 c.from_residual.result (settings_fault (settings_of c.args.config)) f c.from_residual.ensures.1 c.in_err-sound.ensures.refused is, refl)

pub returns-clause-refused : goal.returns-clause-refused
returns-clause-refused g c = λ f is. absurd (sound_none Config c.in_ok-sound.sound (settings_fault (settings_of c.args.config)) f c.in_ok-sound.ensures.refused is)

pub returns-clause-ok : goal.returns-clause-ok
returns-clause-ok g c =
    let d = g.F.FileSystem.disk c.args.files.now in
    let new = g.F.FileSystem.disk c.recovered.new.files in
    along (λ m l. IfOk c.recovered.result (λ found. IsRecoveredAs m l d new found.0 found.1)) c.in_ok-sound.ensures.mode c.in_ok-sound.ensures.directories c.recovered.ensures.ok

pub returns-clause-paths : goal.returns-clause-paths
returns-clause-paths g c = subst (λ (l : List Text). IfOk c.recovered.result (λ found. directories_of_pipes found.0 ≡ l)) c.in_ok-sound.ensures.directories c.recovered.ensures.paths

pub returns-clause-alone : goal.returns-clause-alone
returns-clause-alone g c =
    let d = g.F.FileSystem.disk c.args.files.now in
    let new = g.F.FileSystem.disk c.recovered.new.files in
    subst (λ (l : List Text). IfOk c.recovered.result (λ found. ((queue : LogQueue) → IsOnce d.names l queue) → StandAlone found.0 new)) c.in_ok-sound.ensures.directories c.recovered.ensures.alone

pub returns-clause-err : goal.returns-clause-err
returns-clause-err g c =
    let d = g.F.FileSystem.disk c.args.files.now in
    let new = g.F.FileSystem.disk c.recovered.new.files in
    along (λ m l. OnErr c.recovered.result (IsLeftByOpening m l d new)) c.in_ok-sound.ensures.mode c.in_ok-sound.ensures.directories c.recovered.ensures.err

pub returns-clause-reads : goal.returns-clause-reads
returns-clause-reads g c =
    let d = g.F.FileSystem.disk c.args.files.now in
    let new = g.F.FileSystem.disk c.recovered.new.files in
    along (λ m l. OnErr c.recovered.result (IsFoundAgain m l d new)) c.in_ok-sound.ensures.mode c.in_ok-sound.ensures.directories c.recovered.ensures.reads

pub returns-clause-corrupt : goal.returns-clause-corrupt
returns-clause-corrupt g c =
    let d = g.F.FileSystem.disk c.args.files.now in
    along (λ m l. (f : CorruptionFault) → c.recovered.result ≡ Err (Log (Corruption f)) → (queue : LogQueue) × CantBeOpened m l queue d) c.in_ok-sound.ensures.mode c.in_ok-sound.ensures.directories c.recovered.ensures.corrupt

pub returns-clause-settings : goal.returns-clause-settings
returns-clause-settings g c = subst (λ (s : Settings). IfOk c.recovered.result (λ found. AreSetAs s found.0)) c.in_ok-sound.ensures.settings c.recovered.ensures.settings

pub returns-clause-reserved : goal.returns-clause-reserved
returns-clause-reserved g c =
    let d = g.F.FileSystem.disk c.args.files.now in
    let new = g.F.FileSystem.disk c.recovered.new.files in
    let first = g.F.FileSystem.meter c.args.files.now in
    let last = g.F.FileSystem.meter c.recovered.new.files in
    subst (λ (s : Settings). IfOk c.recovered.result (λ found. KeepsWanted s (directories_of (settings_of c.args.config)) d new first last found.0)) c.in_ok-sound.ensures.settings
    (subst (λ (l : List Text). IfOk c.recovered.result (λ found. KeepsWanted (settings_of c.in_ok-sound.sound) l d new first last found.0)) c.in_ok-sound.ensures.directories c.recovered.ensures.reserved)

pub returns-clause-holes : goal.returns-clause-holes
returns-clause-holes g c =
    subst (λ (m : RecoveryMode). IfOk c.recovered.result (λ found. HasHolesIn m (g.F.FileSystem.disk c.recovered.new.files) found.0)) c.in_ok-sound.ensures.mode c.recovered.ensures.holes

-- ---- why it is refused

pub returns-in_err-sound-clause-later : goal.returns-in_err-sound-clause-later
returns-in_err-sound-clause-later g c = no_more_same _ _

pub returns-in_err-sound-clause-cause : goal.returns-in_err-sound-clause-cause
returns-in_err-sound-clause-cause g c =
    let said = directories_of (settings_of c.args.config) in
    let d = g.F.FileSystem.disk c.args.files.now in
    let free = g.F.FileSystem.is_bounded c.args.files.now in
    let a = g.F.FileSystem.meter c.args.files.now in
    let unsound = settings_fault (settings_of c.args.config) in
    told_cause c.from_residual.result (Log c.in_err-sound.field-0.0) (λ (x : EngineFault). IsOpeningFault unsound c.args.config.recovery_mode said d d free a a x) c.from_residual.ensures.1
    (unsound_cause Config c.args.config.recovery_mode said d free a unsound c.in_err-sound.field-0.0 c.in_err-sound.ensures.refused)

pub returns-in_err-sound-clause-taken : goal.returns-in_err-sound-clause-taken
returns-in_err-sound-clause-taken g c =
    let d = g.F.FileSystem.disk c.args.files.now in
    let a = g.F.FileSystem.meter c.args.files.now in
    free_opening c.args.config.recovery_mode (directories_of (settings_of c.args.config)) d d (g.F.FileSystem.is_bounded c.args.files.now) a a (settings_fault (settings_of c.args.config)) c.from_residual.result
    (returns-in_err-sound-clause-cause g c)

pub returns-clause-cause : goal.returns-clause-cause
returns-clause-cause g c =
    let d = g.F.FileSystem.disk c.args.files.now in
    let new = g.F.FileSystem.disk c.recovered.new.files in
    let free = g.F.FileSystem.is_bounded c.args.files.now in
    let a = g.F.FileSystem.meter c.args.files.now in
    let b = g.F.FileSystem.meter c.recovered.new.files in
    for_settings c.args.config.recovery_mode (directories_of (settings_of c.args.config)) d new free a b (settings_fault (settings_of c.args.config)) c.recovered.result
    (along (λ m l. IfErr c.recovered.result (λ x. IsOpeningFault None m l d new free a b x)) c.in_ok-sound.ensures.mode c.in_ok-sound.ensures.directories c.recovered.ensures.cause)

pub returns-clause-taken : goal.returns-clause-taken
returns-clause-taken g c =
    free_opening c.args.config.recovery_mode (directories_of (settings_of c.args.config)) (g.F.FileSystem.disk c.args.files.now) (g.F.FileSystem.disk c.recovered.new.files) (g.F.FileSystem.is_bounded c.args.files.now)
    (g.F.FileSystem.meter c.args.files.now) (g.F.FileSystem.meter c.recovered.new.files) (settings_fault (settings_of c.args.config)) c.recovered.result (returns-clause-cause g c)
