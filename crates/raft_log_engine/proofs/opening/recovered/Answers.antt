-- What the files read as is what the pipes hold and the tables have; a refusal leaves it.
use Rattle.std.proofs.Common.{ℕ, ◌^◌, ◌<◌, ◌≤◌, List, [], length, Err, ap, sym, subst, ◌∙◌, inl, inr}
use Rattle.std.proofs.lemmas.Bool.{false≢true}
use Rattle.raft_log_disk.proofs.CauseLemmas.{at_err}
use Rattle.raft_log_disk.specs.Text.{Text}
use Rattle.raft_log_files.specs.Settings.{settings_of}
use Rattle.raft_log_files.specs.declared.config.Config.{Config}
use Rattle.raft_log_records.specs.declared.file_id.LogQueue.TheVariants.{Append, Rewrite}
use Rattle.raft_log_recovery.specs.declared.scan.FileKind.TheVariants.{Log}
use Rattle.raft_log_recovery.specs.Queue.{directories_in, names_in}
use Rattle.raft_log_recovery.specs.Scan.{AreFound, OnlyMakes, directories_of}
use Rattle.raft_log_engine.specs.Opening.{IsFoundAgain, IsLeftByOpening}
use Rattle.raft_log_engine.proofs.Again.{made_again}
use Rattle.raft_log_pipe.specs.declared.pipe.SinglePipe.{SinglePipe}
use Rattle.raft_log_pipe.specs.Alone.{directories_of_pipe}
use Rattle.raft_log_pipe.specs.Caused.{IsRefusalOrMemory}
use Rattle.raft_log_pipe.specs.Pipe.{first_of}
use Rattle.raft_log_pipe.specs.Prepared.{IsPreparedOf}
use Rattle.raft_log_recovery.specs.Both.{wanted_of}
use Rattle.raft_log_recovery.proofs.Unreserved.{holes_then, queue_then, with_then}
use Rattle.raft_log_engine.proofs.Opened.{again_then, both_again, both_left, leaves_each, left_then, recovered_as}
use Rattle.raft_log_recovery.specs.Replay.{Placed}
use Rattle.raft_log_traced.specs.Traced.{IsReplayedTraced}
use Rattle.raft_log_engine.proofs.OpenedTraces.{MayBeTraced, all_queue, recovered_traced}
use Rattle.raft_log_engine.proofs.Reopened.{once_there}
use Rattle.raft_log_files.specs.declared.error.CorruptionFault.{CorruptionFault}
use Rattle.raft_log_files.specs.declared.error.Error.{Error}
use Rattle.raft_log_records.specs.declared.file_id.LogQueue.{LogQueue}
use Rattle.raft_log_recovery.specs.Scan.{IsScanFault}
use Rattle.raft_log_engine.specs.Opening.{CantBeOpened}
use Rattle.raft_log_engine.proofs.Corrupt.{cant_open, passed_on, scan_sound}
use Rattle.raft_log_disk.specs.declared.format.LogFileFormat.{LogFileFormat}
use Rattle.std.proofs.Common.{None}
use Rattle.raft_log_disk.proofs.RefusalLemmas.{no_more_then}
use Rattle.raft_log_pipe.proofs.CausedLemmas.{told_cause}
use Rattle.raft_log_recovery.specs.Scan.{AllMade}
use Rattle.raft_log_engine.specs.declared.fault.EngineFault.{EngineFault}
use Rattle.raft_log_engine.specs.declared.fault.EngineFault.TheVariants as fault
use Rattle.raft_log_files.specs.declared.error.Error.TheVariants.{Memory}
use Rattle.raft_log_engine.specs.Unopened.{IsOpeningFault, IsUnopenable}
use Rattle.raft_log_engine.proofs.Unopened.{both_cause, few_wanted, free_opening, prepared_since, reserved_cause, scan_cause}
use Rattle.raft_log_pipe.proofs.EndLemmas.{not_given}
use Rattle.raft_log_engine.proofs.opening.recovered.Goals as goal

-- the format of new files
abbrev plain_format : Config → LogFileFormat
plain_format k = record { version = k.format_version; alignment = 0 }

pub returns-in_err-scan-clause-err : goal.returns-in_err-scan-clause-err
returns-in_err-scan-clause-err g c =
    let d = g.F.FileSystem.disk c.args.files.now in
    let new = g.F.FileSystem.disk c.scan.new.files in
    at_err c.from_residual.result (IsLeftByOpening c.args.config.recovery_mode (directories_of (settings_of c.args.config)) d new)
    (inl (subst (λ (k : Config). OnlyMakes (directories_of (settings_of k)) d new) c.new-builder.ensures.config c.in_err-scan.ensures.only))

pub returns-in_err-scan-clause-reads : goal.returns-in_err-scan-clause-reads
returns-in_err-scan-clause-reads g c =
    let said = directories_of (settings_of c.args.config) in
    let d = g.F.FileSystem.disk c.args.files.now in
    let new = g.F.FileSystem.disk c.scan.new.files in
    at_err c.from_residual.result (IsFoundAgain c.args.config.recovery_mode said d new)
    (made_again c.args.config.recovery_mode said d new (subst (λ (k : Config). OnlyMakes (directories_of (settings_of k)) d new) c.new-builder.ensures.config c.in_err-scan.ensures.only))

pub returns-in_err-pipes-clause-err : goal.returns-in_err-pipes-clause-err
returns-in_err-pipes-clause-err g c =
    let said = directories_of (settings_of c.args.config) in
    let d = g.F.FileSystem.disk c.args.files.now in
    let b = c.scan.new.self in
    let made = g.F.FileSystem.disk c.scan.new.files in
    let new = g.F.FileSystem.disk c.recover_by.new.files in
    let at = c.in_ok-scan.ensures.directories ∙ ap (λ (k : Config). directories_of (settings_of k)) c.new-builder.ensures.config in
    let alike = ap (λ (k : Config). k.recovery_mode) (c.in_ok-scan.ensures.config ∙ c.new-builder.ensures.config) in
    let makes = subst (λ (k : Config). OnlyMakes (directories_of (settings_of k)) d made) c.new-builder.ensures.config c.in_ok-scan.ensures.only in
    let append = subst (λ (l : List Text). AreFound made (Log Append) l (names_in b Append)) (sym c.in_ok-scan.ensures.directories) c.in_ok-scan.ensures.append in
    let rewrite = subst (λ (l : List Text). AreFound made (Log Rewrite) l (names_in b Rewrite)) (sym c.in_ok-scan.ensures.directories) c.in_ok-scan.ensures.rewrite in
    at_err c.from_residual-in_err-pipes.result (IsLeftByOpening c.args.config.recovery_mode said d new)
    (inr (both_left b c.args.config.recovery_mode said at alike d made makes new append rewrite c.recover_by.ensures.leaves))

pub returns-in_err-pipes-clause-reads : goal.returns-in_err-pipes-clause-reads
returns-in_err-pipes-clause-reads g c =
    let said = directories_of (settings_of c.args.config) in
    let d = g.F.FileSystem.disk c.args.files.now in
    let b = c.scan.new.self in
    let made = g.F.FileSystem.disk c.scan.new.files in
    let new = g.F.FileSystem.disk c.recover_by.new.files in
    let at = c.in_ok-scan.ensures.directories ∙ ap (λ (k : Config). directories_of (settings_of k)) c.new-builder.ensures.config in
    let alike = ap (λ (k : Config). k.recovery_mode) (c.in_ok-scan.ensures.config ∙ c.new-builder.ensures.config) in
    let makes = subst (λ (k : Config). OnlyMakes (directories_of (settings_of k)) d made) c.new-builder.ensures.config c.in_ok-scan.ensures.only in
    at_err c.from_residual-in_err-pipes.result (IsFoundAgain c.args.config.recovery_mode said d new)
    (both_again b c.args.config.recovery_mode said at alike d made makes new c.recover_by.ensures.leaves)

pub returns-in_err-traced-clause-err : goal.returns-in_err-traced-clause-err
returns-in_err-traced-clause-err g c =
    let said = directories_of (settings_of c.args.config) in
    let d = g.F.FileSystem.disk c.args.files.now in
    let b = c.scan.new.self in
    let made = g.F.FileSystem.disk c.scan.new.files in
    let new = g.F.FileSystem.disk c.recover_by.new.files in
    let at = c.in_ok-scan.ensures.directories ∙ ap (λ (k : Config). directories_of (settings_of k)) c.new-builder.ensures.config in
    let alike = ap (λ (k : Config). k.recovery_mode) (c.in_ok-scan.ensures.config ∙ c.new-builder.ensures.config) in
    let makes = subst (λ (k : Config). OnlyMakes (directories_of (settings_of k)) d made) c.new-builder.ensures.config c.in_ok-scan.ensures.only in
    let append = subst (λ (l : List Text). AreFound made (Log Append) l (names_in b Append)) (sym c.in_ok-scan.ensures.directories) c.in_ok-scan.ensures.append in
    let rewrite = subst (λ (l : List Text). AreFound made (Log Rewrite) l (names_in b Rewrite)) (sym c.in_ok-scan.ensures.directories) c.in_ok-scan.ensures.rewrite in
    at_err c.from_residual-in_err-traced.result (IsLeftByOpening c.args.config.recovery_mode said d new)
    (inr (both_left b c.args.config.recovery_mode said at alike d made makes new append rewrite c.recover_by.ensures.leaves))

pub returns-in_err-traced-clause-reads : goal.returns-in_err-traced-clause-reads
returns-in_err-traced-clause-reads g c =
    let said = directories_of (settings_of c.args.config) in
    let d = g.F.FileSystem.disk c.args.files.now in
    let b = c.scan.new.self in
    let made = g.F.FileSystem.disk c.scan.new.files in
    let new = g.F.FileSystem.disk c.recover_by.new.files in
    let at = c.in_ok-scan.ensures.directories ∙ ap (λ (k : Config). directories_of (settings_of k)) c.new-builder.ensures.config in
    let alike = ap (λ (k : Config). k.recovery_mode) (c.in_ok-scan.ensures.config ∙ c.new-builder.ensures.config) in
    let makes = subst (λ (k : Config). OnlyMakes (directories_of (settings_of k)) d made) c.new-builder.ensures.config c.in_ok-scan.ensures.only in
    at_err c.from_residual-in_err-traced.result (IsFoundAgain c.args.config.recovery_mode said d new)
    (both_again b c.args.config.recovery_mode said at alike d made makes new c.recover_by.ensures.leaves)

pub returns-clause-ok : goal.returns-clause-ok
returns-clause-ok g c =
    let said = directories_of (settings_of c.args.config) in
    let d = g.F.FileSystem.disk c.args.files.now in
    let b = c.scan.new.self in
    let made = g.F.FileSystem.disk c.scan.new.files in
    let mid = g.F.FileSystem.disk c.recover_by.new.files in
    let new = g.F.FileSystem.disk c.prepare_reserved.new.files in
    let at = c.in_ok-scan.ensures.directories ∙ ap (λ (k : Config). directories_of (settings_of k)) c.new-builder.ensures.config in
    let alike = ap (λ (k : Config). k.recovery_mode) (c.in_ok-scan.ensures.config ∙ c.new-builder.ensures.config) in
    let makes = subst (λ (k : Config). OnlyMakes (directories_of (settings_of k)) d made) c.new-builder.ensures.config c.in_ok-scan.ensures.only in
    let append = subst (λ (l : List Text). AreFound made (Log Append) l (names_in b Append)) (sym c.in_ok-scan.ensures.directories) c.in_ok-scan.ensures.append in
    let rewrite = subst (λ (l : List Text). AreFound made (Log Rewrite) l (names_in b Rewrite)) (sym c.in_ok-scan.ensures.directories) c.in_ok-scan.ensures.rewrite in
    let all = c.in_ok-pipes.ensures.replayed in
    let p = c.in_ok-pipes.pipes in
    let q = c.prepare_reserved.new.self in
    let traced = c.in_ok-traced.traced in
    let content = c.in_ok-traced.ensures.content all.0 all.1 in
    let w = with_then b made mid new p q c.prepare_reserved.ensures.append c.prepare_reserved.ensures.rewrite c.prepare_reserved.ensures.holds all.0 all.2 in
    let got = subst (λ (l : List Placed). IsReplayedTraced c.in_ok-pipes.machine l) w.all_are all.1 in
    let ones = all_queue Rewrite made [] w.rewrite.files w.rewrites w.rewrite.got in
    let twos = all_queue Append made [] w.append.files w.appends w.append.got in
    recovered_as b c.args.config.recovery_mode said at alike d made makes new q all.0 traced append rewrite (λ queue cant. false≢true (c.in_ok-pipes.ensures.refused queue cant)) c.prepare_reserved.ensures.pipes w content
    (recovered_traced b made new q all.0 traced c.prepare_reserved.ensures.pipes w content
    (subst (λ (n : ℕ). MayBeTraced n traced w.rewrites w.appends) (c.file_span-first.ensures.first ∙ sym (ap (λ (x : SinglePipe). first_of x) c.prepare_reserved.ensures.append)) (record {
      cleanable = c.in_ok-traced.ensures.cleanable w.rewrites w.appends got ones twos;
      unmarked = c.in_ok-traced.ensures.unmarked w.rewrites w.appends got twos;
      together = (c.in_ok-traced.ensures.together w.rewrites w.appends got ones twos).0;
      placed = c.in_ok-traced.ensures.placed w.rewrites w.appends got ones twos;
    })))

pub returns-clause-paths : goal.returns-clause-paths
returns-clause-paths g c =
    ap directories_of_pipe c.prepare_reserved.ensures.append ∙ c.in_ok-pipes.ensures.opened.append.paths ∙ c.in_ok-scan.ensures.directories ∙ ap (λ (k : Config). directories_of (settings_of k)) c.new-builder.ensures.config

pub returns-clause-alone : goal.returns-clause-alone
returns-clause-alone g c =
    let said = directories_of (settings_of c.args.config) in
    let d = g.F.FileSystem.disk c.args.files.now in
    let b = c.scan.new.self in
    let made = g.F.FileSystem.disk c.scan.new.files in
    let at = c.in_ok-scan.ensures.directories ∙ ap (λ (k : Config). directories_of (settings_of k)) c.new-builder.ensures.config in
    let opened = c.in_ok-pipes.ensures.opened in
    λ once. record {
      paths = ap directories_of_pipe c.prepare_reserved.ensures.rewrite ∙ opened.rewrite.paths ∙ sym opened.append.paths ∙ sym (ap directories_of_pipe c.prepare_reserved.ensures.append);
      append = c.prepare_reserved.ensures.alone Append (opened.append.alone (once_there d made _ said (directories_in b) Append c.in_ok-scan.ensures.only at (once Append)));
      rewrite = c.prepare_reserved.ensures.alone Rewrite (opened.rewrite.alone (once_there d made _ said (directories_in b) Rewrite c.in_ok-scan.ensures.only at (once Rewrite)));
    }

pub returns-in_err-scan-clause-corrupt : goal.returns-in_err-scan-clause-corrupt
returns-in_err-scan-clause-corrupt g c =
    let said = directories_of (settings_of c.args.config) in
    let d = g.F.FileSystem.disk c.args.files.now in
    passed_on (λ (f : CorruptionFault). (queue : LogQueue) × CantBeOpened c.args.config.recovery_mode said queue d) c.in_err-scan.field-0.0 c.from_residual.result c.from_residual.ensures.1
    (λ f same.
    absurd (scan_sound (directories_of (settings_of c.new-builder.result.config)) d (g.F.FileSystem.meter c.args.files.now) (g.F.FileSystem.meter c.scan.new.files) f
    (subst (λ (e : Error). IsScanFault (directories_of (settings_of c.new-builder.result.config)) d (g.F.FileSystem.meter c.args.files.now) (g.F.FileSystem.meter c.scan.new.files) e) same c.in_err-scan.ensures.err)))

pub returns-in_err-pipes-clause-corrupt : goal.returns-in_err-pipes-clause-corrupt
returns-in_err-pipes-clause-corrupt g c =
    let said = directories_of (settings_of c.args.config) in
    let d = g.F.FileSystem.disk c.args.files.now in
    let b = c.scan.new.self in
    let made = g.F.FileSystem.disk c.scan.new.files in
    let at = c.in_ok-scan.ensures.directories ∙ ap (λ (k : Config). directories_of (settings_of k)) c.new-builder.ensures.config in
    let alike = ap (λ (k : Config). k.recovery_mode) (c.in_ok-scan.ensures.config ∙ c.new-builder.ensures.config) in
    let makes = subst (λ (k : Config). OnlyMakes (directories_of (settings_of k)) d made) c.new-builder.ensures.config c.in_ok-scan.ensures.only in
    let append = subst (λ (l : List Text). AreFound made (Log Append) l (names_in b Append)) (sym c.in_ok-scan.ensures.directories) c.in_ok-scan.ensures.append in
    let rewrite = subst (λ (l : List Text). AreFound made (Log Rewrite) l (names_in b Rewrite)) (sym c.in_ok-scan.ensures.directories) c.in_ok-scan.ensures.rewrite in
    passed_on (λ (f : CorruptionFault). (queue : LogQueue) × CantBeOpened c.args.config.recovery_mode said queue d) c.in_err-pipes.field-0.0 c.from_residual-in_err-pipes.result c.from_residual-in_err-pipes.ensures.1
    (λ f same. let cant = c.in_err-pipes.ensures.corrupt f (λ i. Err (same i)) in
    (cant.0, cant_open b c.args.config.recovery_mode said at alike d made makes append rewrite cant.0 cant.1))

-- ---- as the settings say

pub returns-clause-settings : goal.returns-clause-settings
returns-clause-settings g c =
    let same = c.in_ok-scan.ensures.config ∙ c.new-builder.ensures.config in
    let opened = c.in_ok-pipes.ensures.opened in
    let append = c.prepare_reserved.ensures.append in
    let rewrite = c.prepare_reserved.ensures.rewrite in (
      (ap (λ (x : SinglePipe). x.target_file_size) append ∙ opened.append.settings.0 ∙ ap (λ (k : Config). k.target_file_size.0) same, ap (λ (x : SinglePipe). x.default_format) append ∙ opened.append.settings.1 ∙ ap plain_format same),
      (ap (λ (x : SinglePipe). x.target_file_size) rewrite ∙ opened.rewrite.settings.0 ∙ ap (λ (k : Config). k.target_file_size.0) same, ap (λ (x : SinglePipe). x.default_format) rewrite ∙ opened.rewrite.settings.1 ∙ ap plain_format same),
    )

pub returns-clause-holes : goal.returns-clause-holes
returns-clause-holes g c =
    let met = g.met.F.FileSystem g.world.𝓛 g.world.𝓜 g.world.𝓡 ((λ s x. x), (λ x. x), (λ x. x), λ x. x) in
    let b = c.scan.new.self in
    let made = g.F.FileSystem.disk c.scan.new.files in
    let mid = g.F.FileSystem.disk c.recover_by.new.files in
    let new = g.F.FileSystem.disk c.prepare_reserved.new.files in
    let same = c.in_ok-scan.ensures.config ∙ c.new-builder.ensures.config in
    λ queue hole.
    sym (ap (λ (k : Config). k.recovery_mode) same)
    ∙ (c.in_ok-pipes.ensures.holes queue
    (holes_then b made mid new c.in_ok-pipes.pipes c.prepare_reserved.new.self c.prepare_reserved.ensures.append c.prepare_reserved.ensures.rewrite (met.is_named c.recover_by.new.files) (met.is_named c.prepare_reserved.new.files) c.prepare_reserved.ensures.unreserved
    c.in_ok-pipes.ensures.pipes queue hole)).0

-- ---- reserved files

pub returns-clause-reserved : goal.returns-clause-reserved
returns-clause-reserved g c =
    let d = g.F.FileSystem.disk c.args.files.now in
    let b = c.scan.new.self in
    let made = g.F.FileSystem.disk c.scan.new.files in
    let new = g.F.FileSystem.disk c.prepare_reserved.new.files in
    let first = g.F.FileSystem.meter c.args.files.now in
    let last = g.F.FileSystem.meter c.prepare_reserved.new.files in
    let q = c.prepare_reserved.new.self in
    let config = c.in_ok-scan.ensures.config ∙ c.new-builder.ensures.config in
    let wanted = c.wanted_reserved-wanted.ensures ∙ ap (λ (k : Config). wanted_of (settings_of k) (length (names_in b Append))) config in
    record {
      made = made;
      appends = names_in b Append;
      makes = subst (λ (k : Config). OnlyMakes (directories_of (settings_of k)) d made) c.new-builder.ensures.config c.in_ok-scan.ensures.only;
      found = subst (λ (k : Config). AreFound made (Log Append) (directories_of (settings_of k)) (names_in b Append)) c.new-builder.ensures.config c.in_ok-scan.ensures.append;
      few = subst (λ (n : ℕ). length q.append.reserved.items ≤ n) wanted c.in_ok-prepare_reserved.ensures.ok;
      prepared = subst (λ (n : ℕ). IsPreparedOf q.append new n first last) wanted
          (prepared_since q.append new c.wanted_reserved-wanted.result first (g.F.FileSystem.meter c.recover_by.new.files) last (no_more_then c.in_ok-scan.ensures.later c.in_ok-pipes.ensures.later) c.in_ok-prepare_reserved.ensures.made);
    }

pub returns-in_err-prepare_reserved-clause-err : goal.returns-in_err-prepare_reserved-clause-err
returns-in_err-prepare_reserved-clause-err g c =
    let met = g.met.F.FileSystem g.world.𝓛 g.world.𝓜 g.world.𝓡 ((λ s x. x), (λ x. x), (λ x. x), λ x. x) in
    let said = directories_of (settings_of c.args.config) in
    let d = g.F.FileSystem.disk c.args.files.now in
    let b = c.scan.new.self in
    let made = g.F.FileSystem.disk c.scan.new.files in
    let mid = g.F.FileSystem.disk c.recover_by.new.files in
    let new = g.F.FileSystem.disk c.prepare_reserved.new.files in
    let at = c.in_ok-scan.ensures.directories ∙ ap (λ (k : Config). directories_of (settings_of k)) c.new-builder.ensures.config in
    let alike = ap (λ (k : Config). k.recovery_mode) (c.in_ok-scan.ensures.config ∙ c.new-builder.ensures.config) in
    let makes = subst (λ (k : Config). OnlyMakes (directories_of (settings_of k)) d made) c.new-builder.ensures.config c.in_ok-scan.ensures.only in
    let append = subst (λ (l : List Text). AreFound made (Log Append) l (names_in b Append)) (sym c.in_ok-scan.ensures.directories) c.in_ok-scan.ensures.append in
    let rewrite = subst (λ (l : List Text). AreFound made (Log Rewrite) l (names_in b Rewrite)) (sym c.in_ok-scan.ensures.directories) c.in_ok-scan.ensures.rewrite in
    let all = c.in_ok-pipes.ensures.replayed in
    let p = c.in_ok-pipes.pipes in
    let q = c.prepare_reserved.new.self in
    let leaves = c.recover_by.ensures.leaves in
    at_err c.from_residual-in_err-prepare_reserved.result (IsLeftByOpening c.args.config.recovery_mode said d new)
    (inr (left_then b c.args.config.recovery_mode said at alike d made makes mid new append rewrite leaves.only c.prepare_reserved.ensures.unreserved
    (λ queue.
    queue_then b made mid new p q c.prepare_reserved.ensures.append c.prepare_reserved.ensures.rewrite (met.is_named c.recover_by.new.files) (met.is_named c.prepare_reserved.new.files) c.prepare_reserved.ensures.unreserved c.in_ok-pipes.ensures.pipes
    b.config.recovery_mode queue all.0 all.2 (leaves_each b c.args.config.recovery_mode said at alike d made makes mid leaves queue))))

pub returns-in_err-prepare_reserved-clause-reads : goal.returns-in_err-prepare_reserved-clause-reads
returns-in_err-prepare_reserved-clause-reads g c =
    let met = g.met.F.FileSystem g.world.𝓛 g.world.𝓜 g.world.𝓡 ((λ s x. x), (λ x. x), (λ x. x), λ x. x) in
    let said = directories_of (settings_of c.args.config) in
    let d = g.F.FileSystem.disk c.args.files.now in
    let b = c.scan.new.self in
    let made = g.F.FileSystem.disk c.scan.new.files in
    let mid = g.F.FileSystem.disk c.recover_by.new.files in
    let new = g.F.FileSystem.disk c.prepare_reserved.new.files in
    let at = c.in_ok-scan.ensures.directories ∙ ap (λ (k : Config). directories_of (settings_of k)) c.new-builder.ensures.config in
    let alike = ap (λ (k : Config). k.recovery_mode) (c.in_ok-scan.ensures.config ∙ c.new-builder.ensures.config) in
    let makes = subst (λ (k : Config). OnlyMakes (directories_of (settings_of k)) d made) c.new-builder.ensures.config c.in_ok-scan.ensures.only in
    let append = subst (λ (l : List Text). AreFound made (Log Append) l (names_in b Append)) (sym c.in_ok-scan.ensures.directories) c.in_ok-scan.ensures.append in
    let rewrite = subst (λ (l : List Text). AreFound made (Log Rewrite) l (names_in b Rewrite)) (sym c.in_ok-scan.ensures.directories) c.in_ok-scan.ensures.rewrite in
    let all = c.in_ok-pipes.ensures.replayed in
    let p = c.in_ok-pipes.pipes in
    let q = c.prepare_reserved.new.self in
    let leaves = c.recover_by.ensures.leaves in
    at_err c.from_residual-in_err-prepare_reserved.result (IsFoundAgain c.args.config.recovery_mode said d new)
    (again_then b c.args.config.recovery_mode said at alike d made makes new
    (λ queue.
    queue_then b made mid new p q c.prepare_reserved.ensures.append c.prepare_reserved.ensures.rewrite (met.is_named c.recover_by.new.files) (met.is_named c.prepare_reserved.new.files) c.prepare_reserved.ensures.unreserved c.in_ok-pipes.ensures.pipes
    b.config.recovery_mode queue all.0 all.2 (leaves_each b c.args.config.recovery_mode said at alike d made makes mid leaves queue)))

pub returns-in_err-prepare_reserved-clause-corrupt : goal.returns-in_err-prepare_reserved-clause-corrupt
returns-in_err-prepare_reserved-clause-corrupt g c =
    let said = directories_of (settings_of c.args.config) in
    let d = g.F.FileSystem.disk c.args.files.now in
    passed_on (λ (f : CorruptionFault). (queue : LogQueue) × CantBeOpened c.args.config.recovery_mode said queue d) c.in_err-prepare_reserved.field-0.0 c.from_residual-in_err-prepare_reserved.result
    c.from_residual-in_err-prepare_reserved.ensures.1
    (λ f same. absurd (subst (λ (e : Error). IsRefusalOrMemory (g.F.FileSystem.meter c.recover_by.new.files) (g.F.FileSystem.meter c.prepare_reserved.new.files) e) same c.in_err-prepare_reserved.ensures.cause))

-- ---- why it is refused

pub returns-clause-later : goal.returns-clause-later
returns-clause-later g c = no_more_then (no_more_then c.in_ok-scan.ensures.later c.in_ok-pipes.ensures.later) c.prepare_reserved.ensures.later

pub returns-in_err-prepare_reserved-clause-later : goal.returns-in_err-prepare_reserved-clause-later
returns-in_err-prepare_reserved-clause-later g c = no_more_then (no_more_then c.in_ok-scan.ensures.later c.in_ok-pipes.ensures.later) c.prepare_reserved.ensures.later

pub returns-in_err-prepare_reserved-clause-cause : goal.returns-in_err-prepare_reserved-clause-cause
returns-in_err-prepare_reserved-clause-cause g c =
    let said = directories_of (settings_of c.args.config) in
    let mode = c.args.config.recovery_mode in
    let d = g.F.FileSystem.disk c.args.files.now in
    let b = c.scan.new.self in
    let mid = g.F.FileSystem.disk c.recover_by.new.files in
    let new = g.F.FileSystem.disk c.prepare_reserved.new.files in
    let free = g.F.FileSystem.is_bounded c.args.files.now in
    let first = g.F.FileSystem.meter c.args.files.now in
    let last = g.F.FileSystem.meter c.prepare_reserved.new.files in
    let few = subst (λ (n : ℕ). n < 2 ^ 32) (sym c.wanted_reserved-wanted.ensures) (few_wanted (settings_of b.config) (length (names_in b Append))) in
    told_cause c.from_residual-in_err-prepare_reserved.result (fault.Log c.in_err-prepare_reserved.field-0.0) (λ (x : EngineFault). IsOpeningFault None mode said d new free first last x) c.from_residual-in_err-prepare_reserved.ensures.1
    (reserved_cause mode said d new free first last mid c.wanted_reserved-wanted.result (length c.in_ok-pipes.pipes.append.reserved.items) (g.F.FileSystem.is_bounded c.recover_by.new.files) (g.F.FileSystem.meter c.recover_by.new.files) few
    c.prepare_reserved.ensures.unreserved.next (no_more_then c.in_ok-scan.ensures.later c.in_ok-pipes.ensures.later) c.in_err-prepare_reserved.field-0.0 c.in_err-prepare_reserved.ensures.cause c.in_err-prepare_reserved.ensures.taken)

pub returns-in_err-prepare_reserved-clause-taken : goal.returns-in_err-prepare_reserved-clause-taken
returns-in_err-prepare_reserved-clause-taken g c =
    free_opening c.args.config.recovery_mode (directories_of (settings_of c.args.config)) (g.F.FileSystem.disk c.args.files.now) (g.F.FileSystem.disk c.prepare_reserved.new.files) (g.F.FileSystem.is_bounded c.args.files.now)
    (g.F.FileSystem.meter c.args.files.now) (g.F.FileSystem.meter c.prepare_reserved.new.files) None c.from_residual-in_err-prepare_reserved.result (returns-in_err-prepare_reserved-clause-cause g c)

pub returns-in_err-pipes-clause-later : goal.returns-in_err-pipes-clause-later
returns-in_err-pipes-clause-later g c = no_more_then c.in_ok-scan.ensures.later c.in_err-pipes.ensures.later

pub returns-in_err-scan-clause-cause : goal.returns-in_err-scan-clause-cause
returns-in_err-scan-clause-cause g c =
    let said = directories_of (settings_of c.args.config) in
    let built = directories_of (settings_of c.new-builder.result.config) in
    let d = g.F.FileSystem.disk c.args.files.now in
    let new = g.F.FileSystem.disk c.scan.new.files in
    let free = g.F.FileSystem.is_bounded c.args.files.now in
    let a = g.F.FileSystem.meter c.args.files.now in
    let b = g.F.FileSystem.meter c.scan.new.files in
    told_cause c.from_residual.result (fault.Log c.in_err-scan.field-0.0) (λ (x : EngineFault). IsOpeningFault None c.args.config.recovery_mode said d new free a b x) c.from_residual.ensures.1
    (subst (λ (k : Config). IsOpeningFault None c.args.config.recovery_mode (directories_of (settings_of k)) d new free a b (fault.Log c.in_err-scan.field-0.0)) c.new-builder.ensures.config
    (scan_cause c.args.config.recovery_mode built d new free a b c.in_err-scan.field-0.0 c.in_err-scan.ensures.err c.in_err-scan.ensures.taken))

pub returns-in_err-scan-clause-taken : goal.returns-in_err-scan-clause-taken
returns-in_err-scan-clause-taken g c =
    free_opening c.args.config.recovery_mode (directories_of (settings_of c.args.config)) (g.F.FileSystem.disk c.args.files.now) (g.F.FileSystem.disk c.scan.new.files) (g.F.FileSystem.is_bounded c.args.files.now)
    (g.F.FileSystem.meter c.args.files.now) (g.F.FileSystem.meter c.scan.new.files) None c.from_residual.result (returns-in_err-scan-clause-cause g c)

pub returns-in_err-pipes-clause-cause : goal.returns-in_err-pipes-clause-cause
returns-in_err-pipes-clause-cause g c =
    let said = directories_of (settings_of c.args.config) in
    let mode = c.args.config.recovery_mode in
    let d = g.F.FileSystem.disk c.args.files.now in
    let builder = c.scan.new.self in
    let made = g.F.FileSystem.disk c.scan.new.files in
    let new = g.F.FileSystem.disk c.recover_by.new.files in
    let free = g.F.FileSystem.is_bounded c.args.files.now in
    let a = g.F.FileSystem.meter c.args.files.now in
    let b = g.F.FileSystem.meter c.scan.new.files in
    let e = g.F.FileSystem.meter c.recover_by.new.files in
    let at = c.in_ok-scan.ensures.directories ∙ ap (λ (k : Config). directories_of (settings_of k)) c.new-builder.ensures.config in
    let alike = ap (λ (k : Config). k.recovery_mode) (c.in_ok-scan.ensures.config ∙ c.new-builder.ensures.config) in
    let makes = subst (λ (k : Config). OnlyMakes (directories_of (settings_of k)) d made) c.new-builder.ensures.config c.in_ok-scan.ensures.only in
    let all = subst (λ (k : Config). AllMade (directories_of (settings_of k)) made) c.new-builder.ensures.config c.in_ok-scan.ensures.made in
    let append = subst (λ (l : List Text). AreFound made (Log Append) l (names_in builder Append)) (sym c.in_ok-scan.ensures.directories) c.in_ok-scan.ensures.append in
    let rewrite = subst (λ (l : List Text). AreFound made (Log Rewrite) l (names_in builder Rewrite)) (sym c.in_ok-scan.ensures.directories) c.in_ok-scan.ensures.rewrite in
    told_cause c.from_residual-in_err-pipes.result (fault.Log c.in_err-pipes.field-0.0) (λ (x : EngineFault). IsOpeningFault None mode said d new free a e x) c.from_residual-in_err-pipes.ensures.1
    (both_cause mode said d new free a e builder at made makes all append rewrite (g.F.FileSystem.is_bounded c.scan.new.files) b c.in_ok-scan.ensures.later c.in_err-pipes.field-0.0 c.in_err-pipes.ensures.cause
    (λ f same. let cant = c.in_err-pipes.ensures.corrupt f (λ i. Err (same i)) in
    (cant.0, cant_open builder mode said at alike d made makes append rewrite cant.0 cant.1)))

pub returns-in_err-pipes-clause-taken : goal.returns-in_err-pipes-clause-taken
returns-in_err-pipes-clause-taken g c =
    free_opening c.args.config.recovery_mode (directories_of (settings_of c.args.config)) (g.F.FileSystem.disk c.args.files.now) (g.F.FileSystem.disk c.recover_by.new.files) (g.F.FileSystem.is_bounded c.args.files.now)
    (g.F.FileSystem.meter c.args.files.now) (g.F.FileSystem.meter c.recover_by.new.files) None c.from_residual-in_err-pipes.result (returns-in_err-pipes-clause-cause g c)

pub returns-in_err-traced-clause-later : goal.returns-in_err-traced-clause-later
returns-in_err-traced-clause-later g c = no_more_then c.in_ok-scan.ensures.later c.in_ok-pipes.ensures.later

pub returns-in_err-traced-clause-taken : goal.returns-in_err-traced-clause-taken
returns-in_err-traced-clause-taken g c =
    let said = directories_of (settings_of c.args.config) in
    let d = g.F.FileSystem.disk c.args.files.now in
    let new = g.F.FileSystem.disk c.recover_by.new.files in
    λ nothing. told_cause c.from_residual-in_err-traced.result (fault.Log Memory) (λ (x : EngineFault). IsUnopenable None c.args.config.recovery_mode said d new x) c.from_residual-in_err-traced.ensures.1 tt

-- ---- what is found, where nothing is

pub returns-in_err-scan-clause-ok : goal.returns-in_err-scan-clause-ok
returns-in_err-scan-clause-ok g c = not_given _ _ c.from_residual.result c.from_residual.ensures.1

pub returns-in_err-scan-clause-paths : goal.returns-in_err-scan-clause-paths
returns-in_err-scan-clause-paths g c = not_given _ _ c.from_residual.result c.from_residual.ensures.1

pub returns-in_err-scan-clause-settings : goal.returns-in_err-scan-clause-settings
returns-in_err-scan-clause-settings g c = not_given _ _ c.from_residual.result c.from_residual.ensures.1

pub returns-in_err-scan-clause-holes : goal.returns-in_err-scan-clause-holes
returns-in_err-scan-clause-holes g c = not_given _ _ c.from_residual.result c.from_residual.ensures.1

pub returns-in_err-scan-clause-alone : goal.returns-in_err-scan-clause-alone
returns-in_err-scan-clause-alone g c = not_given _ _ c.from_residual.result c.from_residual.ensures.1

pub returns-in_err-scan-clause-reserved : goal.returns-in_err-scan-clause-reserved
returns-in_err-scan-clause-reserved g c = not_given _ _ c.from_residual.result c.from_residual.ensures.1

pub returns-in_err-pipes-clause-ok : goal.returns-in_err-pipes-clause-ok
returns-in_err-pipes-clause-ok g c = not_given _ _ c.from_residual-in_err-pipes.result c.from_residual-in_err-pipes.ensures.1

pub returns-in_err-pipes-clause-paths : goal.returns-in_err-pipes-clause-paths
returns-in_err-pipes-clause-paths g c = not_given _ _ c.from_residual-in_err-pipes.result c.from_residual-in_err-pipes.ensures.1

pub returns-in_err-pipes-clause-settings : goal.returns-in_err-pipes-clause-settings
returns-in_err-pipes-clause-settings g c = not_given _ _ c.from_residual-in_err-pipes.result c.from_residual-in_err-pipes.ensures.1

pub returns-in_err-pipes-clause-holes : goal.returns-in_err-pipes-clause-holes
returns-in_err-pipes-clause-holes g c = not_given _ _ c.from_residual-in_err-pipes.result c.from_residual-in_err-pipes.ensures.1

pub returns-in_err-pipes-clause-alone : goal.returns-in_err-pipes-clause-alone
returns-in_err-pipes-clause-alone g c = not_given _ _ c.from_residual-in_err-pipes.result c.from_residual-in_err-pipes.ensures.1

pub returns-in_err-pipes-clause-reserved : goal.returns-in_err-pipes-clause-reserved
returns-in_err-pipes-clause-reserved g c = not_given _ _ c.from_residual-in_err-pipes.result c.from_residual-in_err-pipes.ensures.1

pub returns-in_err-traced-clause-ok : goal.returns-in_err-traced-clause-ok
returns-in_err-traced-clause-ok g c = not_given _ _ c.from_residual-in_err-traced.result c.from_residual-in_err-traced.ensures.1

pub returns-in_err-traced-clause-paths : goal.returns-in_err-traced-clause-paths
returns-in_err-traced-clause-paths g c = not_given _ _ c.from_residual-in_err-traced.result c.from_residual-in_err-traced.ensures.1

pub returns-in_err-traced-clause-settings : goal.returns-in_err-traced-clause-settings
returns-in_err-traced-clause-settings g c = not_given _ _ c.from_residual-in_err-traced.result c.from_residual-in_err-traced.ensures.1

pub returns-in_err-traced-clause-holes : goal.returns-in_err-traced-clause-holes
returns-in_err-traced-clause-holes g c = not_given _ _ c.from_residual-in_err-traced.result c.from_residual-in_err-traced.ensures.1

pub returns-in_err-traced-clause-alone : goal.returns-in_err-traced-clause-alone
returns-in_err-traced-clause-alone g c = not_given _ _ c.from_residual-in_err-traced.result c.from_residual-in_err-traced.ensures.1

pub returns-in_err-traced-clause-reserved : goal.returns-in_err-traced-clause-reserved
returns-in_err-traced-clause-reserved g c = not_given _ _ c.from_residual-in_err-traced.result c.from_residual-in_err-traced.ensures.1

pub returns-in_err-prepare_reserved-clause-ok : goal.returns-in_err-prepare_reserved-clause-ok
returns-in_err-prepare_reserved-clause-ok g c = not_given _ _ c.from_residual-in_err-prepare_reserved.result c.from_residual-in_err-prepare_reserved.ensures.1

pub returns-in_err-prepare_reserved-clause-paths : goal.returns-in_err-prepare_reserved-clause-paths
returns-in_err-prepare_reserved-clause-paths g c = not_given _ _ c.from_residual-in_err-prepare_reserved.result c.from_residual-in_err-prepare_reserved.ensures.1

pub returns-in_err-prepare_reserved-clause-settings : goal.returns-in_err-prepare_reserved-clause-settings
returns-in_err-prepare_reserved-clause-settings g c = not_given _ _ c.from_residual-in_err-prepare_reserved.result c.from_residual-in_err-prepare_reserved.ensures.1

pub returns-in_err-prepare_reserved-clause-holes : goal.returns-in_err-prepare_reserved-clause-holes
returns-in_err-prepare_reserved-clause-holes g c = not_given _ _ c.from_residual-in_err-prepare_reserved.result c.from_residual-in_err-prepare_reserved.ensures.1

pub returns-in_err-prepare_reserved-clause-alone : goal.returns-in_err-prepare_reserved-clause-alone
returns-in_err-prepare_reserved-clause-alone g c = not_given _ _ c.from_residual-in_err-prepare_reserved.result c.from_residual-in_err-prepare_reserved.ensures.1

pub returns-in_err-prepare_reserved-clause-reserved : goal.returns-in_err-prepare_reserved-clause-reserved
returns-in_err-prepare_reserved-clause-reserved g c = not_given _ _ c.from_residual-in_err-prepare_reserved.result c.from_residual-in_err-prepare_reserved.ensures.1
