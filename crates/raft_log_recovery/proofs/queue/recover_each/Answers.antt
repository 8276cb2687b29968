use Rattle.std.proofs.Common.{◌≡◌, ◌+◌, List, [], ◌∷◌, ◌++◌, length, map, string_bytes, take, arith, Err, refl, sym, subst, ◌∙◌}
use Rattle.std.proofs.lemmas.Bool.{false≢true}
use Rattle.raft_log_pipe.specs.declared.file.File.{File}
use Rattle.raft_log_disk.specs.Disk.{Disk}
use Rattle.raft_log_disk.specs.Text.{Text}
use Rattle.raft_log_files.specs.declared.error.CorruptionFault.{CorruptionFault}
use Rattle.raft_log_disk.proofs.CauseLemmas.{at_err}
use Rattle.raft_log_recovery.specs.Queue.{AnyRefused, AreRecovered}
use Rattle.raft_log_recovery.proofs.QueueLemmas.{NoneRefused, Replays, alike_at, kept_at, left_at, none_left, number_here, only_between}
use Rattle.raft_log_recovery.proofs.ReplayLemmas.{file_fits}
use Rattle.raft_log_recovery.proofs.TurnLemmas.{Turn, done_alike, done_kept, done_left, done_none, done_of, done_only, done_recovered, done_replays, file_at, is_file, stopped_alike, stopped_kept, stopped_left, stopped_only, turn_of}
use Rattle.raft_log_recovery.proofs.CorruptLemmas.{memory_sound, passed_on, refused_at}
use Rattle.std.proofs.Common.{◌⊎◌, inl, inr, ℕ, None, get_or}
use Rattle.raft_log_disk.specs.Disk.{HasOneOf, fd_of}
use Rattle.raft_log_disk.specs.Cause.{RefusesNoMore}
use Rattle.raft_log_disk.proofs.RefusalLemmas.{no_more_then}
use Rattle.raft_log_files.specs.declared.error.Error.{Error}
use Rattle.raft_log_files.specs.declared.error.Error.TheVariants.{Memory}
use Rattle.raft_log_recovery.specs.declared.scan.FileName.{FileName}
use Rattle.raft_log_recovery.specs.Caused.{AnyUnreadable, AreFilesRefused, IsMissing, IsRefusal}
use Rattle.raft_log_recovery.specs.Queue.{IsFileOf, path_of}
use Rattle.raft_log_pipe.proofs.CausedLemmas.{caused_for, told_cause}
use Rattle.raft_log_recovery.proofs.CausedLemmas.{at_in, recovery_for, refusal_then, unreadable_at}
use Rattle.raft_log_pipe.proofs.EndLemmas.{not_given}
use Rattle.raft_log_recovery.proofs.EarlyLemmas.{an_err}
use Rattle.raft_log_recovery.proofs.queue.recover_each.Goals as goal

pub open_file-requires-clause-seq : goal.open_file-requires-clause-seq
open_file-requires-clause-seq g c κs within =
    let met = g.met.F.FileSystem g.world.𝓛 g.world.𝓜 g.world.𝓡 ((λ s x. x), (λ x. x), (λ x. x), λ x. x) in
    (number_here c.args.config.now.mode (map string_bytes c.args.directories.now) c.args.config.now.queue (length c.args.directories.now) (g.F.FileSystem.disk c.args.files.now) c.args.names.now (met.is_named c.args.files.now) c.requires
    c.loop-name.name-index (record { seq = 0; path_id = 0 }) c.loop-name-test.true).0

pub open_file-requires-clause-place : goal.open_file-requires-clause-place
open_file-requires-clause-place g c κs within =
    let met = g.met.F.FileSystem g.world.𝓛 g.world.𝓜 g.world.𝓡 ((λ s x. x), (λ x. x), (λ x. x), λ x. x) in
    (number_here c.args.config.now.mode (map string_bytes c.args.directories.now) c.args.config.now.queue (length c.args.directories.now) (g.F.FileSystem.disk c.args.files.now) c.args.names.now (met.is_named c.args.files.now) c.requires
    c.loop-name.name-index (record { seq = 0; path_id = 0 }) c.loop-name-test.true).1

pub returns-in_err-fd-clause-only : goal.returns-in_err-fd-clause-only
returns-in_err-fd-clause-only g c =
    let met = g.met.F.FileSystem g.world.𝓛 g.world.𝓜 g.world.𝓡 ((λ s x. x), (λ x. x), (λ x. x), λ x. x) in
    only_between c.args.config.now.mode (map string_bytes c.args.directories.now) c.args.config.now.queue (length c.args.directories.now) (g.F.FileSystem.disk c.args.files.now) c.args.names.now (met.is_named c.args.files.now) c.requires
    (g.F.FileSystem.disk c.loop-name.files) (g.F.FileSystem.disk c.open_file.new.files) c.loop-name.name-index c.loop-name.recovered.items c.open_file.ensures.kept c.loop-name.invariant.so

pub returns-in_err-fd-clause-err : goal.returns-in_err-fd-clause-err
returns-in_err-fd-clause-err g c =
    let met = g.met.F.FileSystem g.world.𝓛 g.world.𝓜 g.world.𝓡 ((λ s x. x), (λ x. x), (λ x. x), λ x. x) in
    at_err _ _
    (left_at c.args.config.now.mode (map string_bytes c.args.directories.now) c.args.config.now.queue (length c.args.directories.now) (g.F.FileSystem.disk c.args.files.now) c.args.names.now (met.is_named c.args.files.now) c.requires
    (g.F.FileSystem.disk c.loop-name.files) (g.F.FileSystem.disk c.open_file.new.files) c.loop-name.name-index c.loop-name.recovered.items c.open_file.ensures.kept c.loop-name.invariant.so)

pub returns-in_err-fd-clause-kept : goal.returns-in_err-fd-clause-kept
returns-in_err-fd-clause-kept g c =
    let met = g.met.F.FileSystem g.world.𝓛 g.world.𝓜 g.world.𝓡 ((λ s x. x), (λ x. x), (λ x. x), λ x. x) in
    at_err _ _
    (kept_at c.args.config.now.mode (map string_bytes c.args.directories.now) c.args.config.now.queue (length c.args.directories.now) (g.F.FileSystem.disk c.args.files.now) c.args.names.now (met.is_named c.args.files.now) c.requires
    (g.F.FileSystem.disk c.loop-name.files) (g.F.FileSystem.disk c.open_file.new.files) c.loop-name.name-index c.loop-name.recovered.items (omega (arith, c.loop-name-test.true)) c.open_file.ensures.kept c.loop-name.invariant.so
    c.loop-name.invariant.none)

pub recover_file-requires-after_bounds : goal.recover_file-requires-after_bounds
recover_file-requires-after_bounds g c κs within =
    let met = g.met.F.FileSystem g.world.𝓛 g.world.𝓜 g.world.𝓡 ((λ s x. x), (λ x. x), (λ x. x), λ x. x) in
    let t : Turn = turn_of (g.F.FileSystem.disk c.args.files.now) (met.is_named c.args.files.now) c.args.config.now.mode c.args.config.now.queue c.args.directories.now c.args.names.now c.requires c.loop-name.name-index c.loop-name-test.true
    (g.F.FileSystem.disk c.loop-name.files) (g.F.FileSystem.disk c.open_file.new.files) c.loop-name.recovered.items c.in_ok-fd.fd.0 c.new-id.result c.open_file.ensures.kept c.loop-name.invariant.so c.in_ok-fd.ensures.ok (λ j. record { queue = c.new-id.ensures.queue j; seq = c.new-id.ensures.seq j }) in
    is_file t

pub returns-in_err-format-clause-only : goal.returns-in_err-format-clause-only
returns-in_err-format-clause-only g c =
    let met = g.met.F.FileSystem g.world.𝓛 g.world.𝓜 g.world.𝓡 ((λ s x. x), (λ x. x), (λ x. x), λ x. x) in
    let t : Turn = turn_of (g.F.FileSystem.disk c.args.files.now) (met.is_named c.args.files.now) c.args.config.now.mode c.args.config.now.queue c.args.directories.now c.args.names.now c.requires c.loop-name.name-index c.loop-name-test.true
    (g.F.FileSystem.disk c.loop-name.files) (g.F.FileSystem.disk c.open_file.new.files) c.loop-name.recovered.items c.in_ok-fd.fd.0 c.new-id.result c.open_file.ensures.kept c.loop-name.invariant.so c.in_ok-fd.ensures.ok (λ j. record { queue = c.new-id.ensures.queue j; seq = c.new-id.ensures.seq j }) in
    stopped_only t (g.F.FileSystem.disk c.recover_file.new.files) c.in_err-format.ensures.err

pub returns-in_err-format-clause-err : goal.returns-in_err-format-clause-err
returns-in_err-format-clause-err g c =
    let met = g.met.F.FileSystem g.world.𝓛 g.world.𝓜 g.world.𝓡 ((λ s x. x), (λ x. x), (λ x. x), λ x. x) in
    let t : Turn = turn_of (g.F.FileSystem.disk c.args.files.now) (met.is_named c.args.files.now) c.args.config.now.mode c.args.config.now.queue c.args.directories.now c.args.names.now c.requires c.loop-name.name-index c.loop-name-test.true
    (g.F.FileSystem.disk c.loop-name.files) (g.F.FileSystem.disk c.open_file.new.files) c.loop-name.recovered.items c.in_ok-fd.fd.0 c.new-id.result c.open_file.ensures.kept c.loop-name.invariant.so c.in_ok-fd.ensures.ok (λ j. record { queue = c.new-id.ensures.queue j; seq = c.new-id.ensures.seq j }) in
    at_err _ _ (stopped_left t (g.F.FileSystem.disk c.recover_file.new.files) c.in_err-format.ensures.err)

pub returns-in_err-format-clause-kept : goal.returns-in_err-format-clause-kept
returns-in_err-format-clause-kept g c =
    let met = g.met.F.FileSystem g.world.𝓛 g.world.𝓜 g.world.𝓡 ((λ s x. x), (λ x. x), (λ x. x), λ x. x) in
    let t : Turn = turn_of (g.F.FileSystem.disk c.args.files.now) (met.is_named c.args.files.now) c.args.config.now.mode c.args.config.now.queue c.args.directories.now c.args.names.now c.requires c.loop-name.name-index c.loop-name-test.true
    (g.F.FileSystem.disk c.loop-name.files) (g.F.FileSystem.disk c.open_file.new.files) c.loop-name.recovered.items c.in_ok-fd.fd.0 c.new-id.result c.open_file.ensures.kept c.loop-name.invariant.so c.in_ok-fd.ensures.ok (λ j. record { queue = c.new-id.ensures.queue j; seq = c.new-id.ensures.seq j }) in
    at_err _ _
    (stopped_kept t (g.F.FileSystem.disk c.recover_file.new.files) c.len.result (c.len.ensures ∙ c.loop-name.invariant.count) c.in_err-format.ensures.err (λ fault is refused. (c.in_err-format.ensures.refused fault is refused).1) c.loop-name.invariant.none)

pub returns-in_err-push-clause-only : goal.returns-in_err-push-clause-only
returns-in_err-push-clause-only g c =
    let met = g.met.F.FileSystem g.world.𝓛 g.world.𝓜 g.world.𝓡 ((λ s x. x), (λ x. x), (λ x. x), λ x. x) in
    let t : Turn = turn_of (g.F.FileSystem.disk c.args.files.now) (met.is_named c.args.files.now) c.args.config.now.mode c.args.config.now.queue c.args.directories.now c.args.names.now c.requires c.loop-name.name-index c.loop-name-test.true
    (g.F.FileSystem.disk c.loop-name.files) (g.F.FileSystem.disk c.open_file.new.files) c.loop-name.recovered.items c.in_ok-fd.fd.0 c.new-id.result c.open_file.ensures.kept c.loop-name.invariant.so c.in_ok-fd.ensures.ok (λ j. record { queue = c.new-id.ensures.queue j; seq = c.new-id.ensures.seq j }) in
    let f : File = file_at t c.in_ok-fd.fd c.in_ok-format.format in
    let done = done_of t c.in_ok-fd.fd c.in_ok-format.format (g.F.FileSystem.disk c.recover_file.new.files) refl c.in_ok-format.ensures.ok c.in_ok-format.ensures.format (file_fits t.cur t.fd (met.has_images c.open_file.new.files) (is_file t)) in
    done_only t f (g.F.FileSystem.disk c.recover_file.new.files) done

pub returns-in_err-push-clause-err : goal.returns-in_err-push-clause-err
returns-in_err-push-clause-err g c =
    let met = g.met.F.FileSystem g.world.𝓛 g.world.𝓜 g.world.𝓡 ((λ s x. x), (λ x. x), (λ x. x), λ x. x) in
    let t : Turn = turn_of (g.F.FileSystem.disk c.args.files.now) (met.is_named c.args.files.now) c.args.config.now.mode c.args.config.now.queue c.args.directories.now c.args.names.now c.requires c.loop-name.name-index c.loop-name-test.true
    (g.F.FileSystem.disk c.loop-name.files) (g.F.FileSystem.disk c.open_file.new.files) c.loop-name.recovered.items c.in_ok-fd.fd.0 c.new-id.result c.open_file.ensures.kept c.loop-name.invariant.so c.in_ok-fd.ensures.ok (λ j. record { queue = c.new-id.ensures.queue j; seq = c.new-id.ensures.seq j }) in
    let f : File = file_at t c.in_ok-fd.fd c.in_ok-format.format in
    let done = done_of t c.in_ok-fd.fd c.in_ok-format.format (g.F.FileSystem.disk c.recover_file.new.files) refl c.in_ok-format.ensures.ok c.in_ok-format.ensures.format (file_fits t.cur t.fd (met.has_images c.open_file.new.files) (is_file t)) in
    at_err _ _ (done_left t f (g.F.FileSystem.disk c.recover_file.new.files) done)

pub returns-in_err-push-clause-kept : goal.returns-in_err-push-clause-kept
returns-in_err-push-clause-kept g c =
    let met = g.met.F.FileSystem g.world.𝓛 g.world.𝓜 g.world.𝓡 ((λ s x. x), (λ x. x), (λ x. x), λ x. x) in
    let t : Turn = turn_of (g.F.FileSystem.disk c.args.files.now) (met.is_named c.args.files.now) c.args.config.now.mode c.args.config.now.queue c.args.directories.now c.args.names.now c.requires c.loop-name.name-index c.loop-name-test.true
    (g.F.FileSystem.disk c.loop-name.files) (g.F.FileSystem.disk c.open_file.new.files) c.loop-name.recovered.items c.in_ok-fd.fd.0 c.new-id.result c.open_file.ensures.kept c.loop-name.invariant.so c.in_ok-fd.ensures.ok (λ j. record { queue = c.new-id.ensures.queue j; seq = c.new-id.ensures.seq j }) in
    let f : File = file_at t c.in_ok-fd.fd c.in_ok-format.format in
    let done = done_of t c.in_ok-fd.fd c.in_ok-format.format (g.F.FileSystem.disk c.recover_file.new.files) refl c.in_ok-format.ensures.ok c.in_ok-format.ensures.format (file_fits t.cur t.fd (met.has_images c.open_file.new.files) (is_file t)) in
    at_err _ _ (done_kept t f (g.F.FileSystem.disk c.recover_file.new.files) done c.len.result (c.len.ensures ∙ c.loop-name.invariant.count) (λ fault is refused. false≢true (c.in_ok-format.ensures.refused fault is refused).0) c.loop-name.invariant.none)

pub loop-name-preserved : goal.loop-name-preserved
loop-name-preserved g c =
    let met = g.met.F.FileSystem g.world.𝓛 g.world.𝓜 g.world.𝓡 ((λ s x. x), (λ x. x), (λ x. x), λ x. x) in
    let t : Turn = turn_of (g.F.FileSystem.disk c.args.files.now) (met.is_named c.args.files.now) c.args.config.now.mode c.args.config.now.queue c.args.directories.now c.args.names.now c.requires c.loop-name.name-index c.loop-name-test.true
    (g.F.FileSystem.disk c.loop-name.files) (g.F.FileSystem.disk c.open_file.new.files) c.loop-name.recovered.items c.in_ok-fd.fd.0 c.new-id.result c.open_file.ensures.kept c.loop-name.invariant.so c.in_ok-fd.ensures.ok (λ j. record { queue = c.new-id.ensures.queue j; seq = c.new-id.ensures.seq j }) in
    let f : File = file_at t c.in_ok-fd.fd c.in_ok-format.format in
    let done = done_of t c.in_ok-fd.fd c.in_ok-format.format (g.F.FileSystem.disk c.recover_file.new.files) refl c.in_ok-format.ensures.ok c.in_ok-format.ensures.format (file_fits t.cur t.fd (met.has_images c.open_file.new.files) (is_file t)) in
    let pushed : c.push.new.self.items ≡ c.loop-name.recovered.items ++ f ∷ [] = c.in_ok-push.ensures.items in
    record {
      count = omega (arith, c.in_ok-push.ensures.len, c.loop-name.invariant.count);
      so = subst (AreRecovered t.directories t.queue t.old (g.F.FileSystem.disk c.recover_file.new.files) (take (t.i + 1) t.names)) (sym pushed) (done_recovered t f (g.F.FileSystem.disk c.recover_file.new.files) done);
      replayed = subst (λ (l : List File). Replays (g.M.ReplayMachine.has_replayed c.args.machine.now) (g.M.ReplayMachine.has_replayed c.recover_file.new.machine) t.queue (g.F.FileSystem.disk c.recover_file.new.files) l) (sym pushed)
          (done_replays t f (g.F.FileSystem.disk c.recover_file.new.files) done (g.M.ReplayMachine.has_replayed c.args.machine.now) (g.M.ReplayMachine.has_replayed c.loop-name.machine) (g.M.ReplayMachine.has_replayed c.recover_file.new.machine)
          (subst (λ (x : Disk). Replays (g.M.ReplayMachine.has_replayed c.args.machine.now) (g.M.ReplayMachine.has_replayed c.loop-name.machine) t.queue x c.loop-name.recovered.items) (sym c.open_file.ensures.kept) c.loop-name.invariant.replayed)
          c.in_ok-format.ensures.replayed);
      later = no_more_then c.loop-name.invariant.later (no_more_then c.in_ok-fd.ensures.later c.in_ok-format.ensures.later);
      none = done_none t f (g.F.FileSystem.disk c.recover_file.new.files) done c.len.result (c.len.ensures ∙ c.loop-name.invariant.count) (λ fault is refused. false≢true (c.in_ok-format.ensures.refused fault is refused).0) c.loop-name.invariant.none;
    }

pub returns-clause-refused : goal.returns-clause-refused
returns-clause-refused g c =
    let directories : List Text = map string_bytes c.args.directories.now in
    let all : c.loop-name.name-index ≡ length c.args.names.now = omega (arith, c.loop-name-test.false, c.loop-name.auto.name-index-end) in
    λ any. absurd (none_left c.args.config.now.mode directories c.args.config.now.queue c.args.names.now (g.F.FileSystem.disk c.args.files.now)
    (subst (NoneRefused c.args.config.now.mode directories c.args.config.now.queue c.args.names.now (g.F.FileSystem.disk c.args.files.now)) all c.loop-name.invariant.none) any)

pub returns-in_err-fd-clause-reads : goal.returns-in_err-fd-clause-reads
returns-in_err-fd-clause-reads g c =
    let met = g.met.F.FileSystem g.world.𝓛 g.world.𝓜 g.world.𝓡 ((λ s x. x), (λ x. x), (λ x. x), λ x. x) in
    alike_at c.args.config.now.mode (map string_bytes c.args.directories.now) c.args.config.now.queue (length c.args.directories.now) (g.F.FileSystem.disk c.args.files.now) c.args.names.now (met.is_named c.args.files.now) c.requires
    (g.F.FileSystem.disk c.loop-name.files) (g.F.FileSystem.disk c.open_file.new.files) c.loop-name.name-index c.loop-name.recovered.items c.open_file.ensures.kept c.loop-name.invariant.so

pub returns-in_err-format-clause-reads : goal.returns-in_err-format-clause-reads
returns-in_err-format-clause-reads g c =
    let met = g.met.F.FileSystem g.world.𝓛 g.world.𝓜 g.world.𝓡 ((λ s x. x), (λ x. x), (λ x. x), λ x. x) in
    let t : Turn = turn_of (g.F.FileSystem.disk c.args.files.now) (met.is_named c.args.files.now) c.args.config.now.mode c.args.config.now.queue c.args.directories.now c.args.names.now c.requires c.loop-name.name-index c.loop-name-test.true
    (g.F.FileSystem.disk c.loop-name.files) (g.F.FileSystem.disk c.open_file.new.files) c.loop-name.recovered.items c.in_ok-fd.fd.0 c.new-id.result c.open_file.ensures.kept c.loop-name.invariant.so c.in_ok-fd.ensures.ok (λ j. record { queue = c.new-id.ensures.queue j; seq = c.new-id.ensures.seq j }) in
    stopped_alike t (g.F.FileSystem.disk c.recover_file.new.files) c.in_err-format.ensures.err

pub returns-in_err-push-clause-reads : goal.returns-in_err-push-clause-reads
returns-in_err-push-clause-reads g c =
    let met = g.met.F.FileSystem g.world.𝓛 g.world.𝓜 g.world.𝓡 ((λ s x. x), (λ x. x), (λ x. x), λ x. x) in
    let t : Turn = turn_of (g.F.FileSystem.disk c.args.files.now) (met.is_named c.args.files.now) c.args.config.now.mode c.args.config.now.queue c.args.directories.now c.args.names.now c.requires c.loop-name.name-index c.loop-name-test.true
    (g.F.FileSystem.disk c.loop-name.files) (g.F.FileSystem.disk c.open_file.new.files) c.loop-name.recovered.items c.in_ok-fd.fd.0 c.new-id.result c.open_file.ensures.kept c.loop-name.invariant.so c.in_ok-fd.ensures.ok (λ j. record { queue = c.new-id.ensures.queue j; seq = c.new-id.ensures.seq j }) in
    let f : File = file_at t c.in_ok-fd.fd c.in_ok-format.format in
    let done = done_of t c.in_ok-fd.fd c.in_ok-format.format (g.F.FileSystem.disk c.recover_file.new.files) refl c.in_ok-format.ensures.ok c.in_ok-format.ensures.format (file_fits t.cur t.fd (met.has_images c.open_file.new.files) (is_file t)) in
    done_alike t f (g.F.FileSystem.disk c.recover_file.new.files) done

pub returns-clause-reads : goal.returns-clause-reads
returns-clause-reads g c =
    let met = g.met.F.FileSystem g.world.𝓛 g.world.𝓜 g.world.𝓡 ((λ s x. x), (λ x. x), (λ x. x), λ x. x) in
    alike_at c.args.config.now.mode (map string_bytes c.args.directories.now) c.args.config.now.queue (length c.args.directories.now) (g.F.FileSystem.disk c.args.files.now) c.args.names.now (met.is_named c.args.files.now) c.requires
    (g.F.FileSystem.disk c.loop-name.files) (g.F.FileSystem.disk c.loop-name.files) c.loop-name.name-index c.loop-name.recovered.items refl c.loop-name.invariant.so

pub returns-in_err-format-clause-corrupt : goal.returns-in_err-format-clause-corrupt
returns-in_err-format-clause-corrupt g c =
    let met = g.met.F.FileSystem g.world.𝓛 g.world.𝓜 g.world.𝓡 ((λ s x. x), (λ x. x), (λ x. x), λ x. x) in
    let t : Turn = turn_of (g.F.FileSystem.disk c.args.files.now) (met.is_named c.args.files.now) c.args.config.now.mode c.args.config.now.queue c.args.directories.now c.args.names.now c.requires c.loop-name.name-index c.loop-name-test.true
    (g.F.FileSystem.disk c.loop-name.files) (g.F.FileSystem.disk c.open_file.new.files) c.loop-name.recovered.items c.in_ok-fd.fd.0 c.new-id.result c.open_file.ensures.kept c.loop-name.invariant.so c.in_ok-fd.ensures.ok (λ j. record { queue = c.new-id.ensures.queue j; seq = c.new-id.ensures.seq j }) in
    passed_on (λ (f : CorruptionFault). AnyRefused t.mode t.directories t.queue t.names t.old) c.in_err-format.field-0.0 c.from_residual-in_err-format.result c.from_residual-in_err-format.ensures.1
    (λ f same. refused_at t c.len.result f (c.len.ensures ∙ c.loop-name.invariant.count) (c.in_err-format.ensures.corrupt f (λ i. Err (same i))))

pub returns-in_err-fd-clause-corrupt : goal.returns-in_err-fd-clause-corrupt
returns-in_err-fd-clause-corrupt g c =
    passed_on (λ (f : CorruptionFault). AnyRefused c.args.config.now.mode (map string_bytes c.args.directories.now) c.args.config.now.queue c.args.names.now (g.F.FileSystem.disk c.args.files.now))
    c.in_err-fd.field-0.0 c.from_residual.result c.from_residual.ensures.1 (λ f same. absurd (c.in_err-fd.ensures.corrupt f (λ i. Err (same i))))

pub returns-in_err-push-clause-corrupt : goal.returns-in_err-push-clause-corrupt
returns-in_err-push-clause-corrupt g c =
    memory_sound (λ (f : CorruptionFault). AnyRefused c.args.config.now.mode (map string_bytes c.args.directories.now) c.args.config.now.queue c.args.names.now (g.F.FileSystem.disk c.args.files.now))
    c.from_residual-in_err-push.result c.from_residual-in_err-push.ensures.1

-- ---- what is set to refuse, and why it is refused

pub returns-in_err-fd-clause-later : goal.returns-in_err-fd-clause-later
returns-in_err-fd-clause-later g c = no_more_then c.loop-name.invariant.later c.in_err-fd.ensures.later

pub returns-in_err-format-clause-later : goal.returns-in_err-format-clause-later
returns-in_err-format-clause-later g c = no_more_then c.loop-name.invariant.later (no_more_then c.in_ok-fd.ensures.later c.in_err-format.ensures.later)

pub returns-in_err-push-clause-later : goal.returns-in_err-push-clause-later
returns-in_err-push-clause-later g c = no_more_then c.loop-name.invariant.later (no_more_then c.in_ok-fd.ensures.later c.in_ok-format.ensures.later)

pub returns-in_err-fd-clause-cause : goal.returns-in_err-fd-clause-cause
returns-in_err-fd-clause-cause g c =
    let directories : List Text = map string_bytes c.args.directories.now in
    let queue = c.args.config.now.queue in
    let old = g.F.FileSystem.disk c.args.files.now in
    let cur = g.F.FileSystem.disk c.loop-name.files in
    let a = g.F.FileSystem.meter c.args.files.now in
    let b = g.F.FileSystem.meter c.loop-name.files in
    let e = g.F.FileSystem.meter c.open_file.new.files in
    let name : FileName = get_or c.args.names.now c.loop-name.name-index (record { seq = 0; path_id = 0 }) in
    let free : Type 0 = g.F.FileSystem.is_bounded c.args.files.now in
    let free_then : Type 0 = g.F.FileSystem.is_bounded c.loop-name.files in
    let gone : Type 0 = fd_of cur.names (path_of directories queue name) ≡ None in
    let missing : Type 0 = IsMissing old directories queue c.args.names.now in
    told_cause c.from_residual.result c.in_err-fd.field-0.0 (λ (x : Error). AreFilesRefused missing ⊥ directories queue c.args.names.now free a e x) c.from_residual.ensures.1
    (inr (caused_for (IsRefusal free_then ⊥ b e) ⊥ ⊥ gone (IsRefusal free ⊥ a e ⊎ AnyUnreadable directories queue c.args.names.now a) ⊥ ⊥ missing c.in_err-fd.field-0.0
    (λ more. inl (refusal_then free free_then ⊥ ⊥ a b e c.loop-name.invariant.later (λ x. x) more)) (λ x. x) (λ x. x)
    (λ none. (name, at_in c.args.names.now c.loop-name.name-index (record { seq = 0; path_id = 0 }) c.loop-name-test.true, subst (λ (l : List (Text × ℕ)). fd_of l (path_of directories queue name) ≡ None) c.loop-name.invariant.so.only.names_stay none))
    c.in_err-fd.ensures.cause))

pub returns-in_err-format-clause-cause : goal.returns-in_err-format-clause-cause
returns-in_err-format-clause-cause g c =
    let met = g.met.F.FileSystem g.world.𝓛 g.world.𝓜 g.world.𝓡 ((λ s x. x), (λ x. x), (λ x. x), λ x. x) in
    let directories : List Text = map string_bytes c.args.directories.now in
    let queue = c.args.config.now.queue in
    let cur = g.F.FileSystem.disk c.open_file.new.files in
    let a = g.F.FileSystem.meter c.args.files.now in
    let b = g.F.FileSystem.meter c.open_file.new.files in
    let e = g.F.FileSystem.meter c.recover_file.new.files in
    let name : FileName = get_or c.args.names.now c.loop-name.name-index (record { seq = 0; path_id = 0 }) in
    let missing : Type 0 = IsMissing (g.F.FileSystem.disk c.args.files.now) directories queue c.args.names.now in
    let free : Type 0 = g.F.FileSystem.is_bounded c.args.files.now in
    let free_then : Type 0 = g.F.FileSystem.is_bounded c.open_file.new.files in
    let before : RefusesNoMore free free_then a b = no_more_then c.loop-name.invariant.later c.in_ok-fd.ensures.later in
    let file : IsFileOf cur directories queue name c.in_ok-fd.fd.0 = subst (λ (x : Disk). IsFileOf x directories queue name c.in_ok-fd.fd.0) (sym c.open_file.ensures.kept) c.in_ok-fd.ensures.ok in
    let unread = unreadable_at cur directories queue c.args.names.now name c.in_ok-fd.fd.0 a b (met.is_named c.open_file.new.files)
    (at_in c.args.names.now c.loop-name.name-index (record { seq = 0; path_id = 0 }) c.loop-name-test.true) before.reads file in
    told_cause c.from_residual-in_err-format.result c.in_err-format.field-0.0 (λ (x : Error). AreFilesRefused missing ⊥ directories queue c.args.names.now free a e x) c.from_residual-in_err-format.ensures.1
    (recovery_for (IsRefusal free_then ⊥ b e ⊎ HasOneOf cur c.in_ok-fd.fd.0 b.unreadable) ⊥ (IsRefusal free ⊥ a e ⊎ AnyUnreadable directories queue c.args.names.now a) missing c.in_err-format.field-0.0
    (λ why. elim why [ inl more ↦ inl (refusal_then free free_then ⊥ ⊥ a b e before (λ x. x) more) | inr one ↦ inr (unread one) ]) (λ x. absurd x) c.in_err-format.ensures.cause)

pub returns-in_err-push-clause-cause : goal.returns-in_err-push-clause-cause
returns-in_err-push-clause-cause g c =
    let missing : Type 0 = IsMissing (g.F.FileSystem.disk c.args.files.now) (map string_bytes c.args.directories.now) c.args.config.now.queue c.args.names.now in
    told_cause c.from_residual-in_err-push.result Memory (λ (x : Error). AreFilesRefused missing ⊥ (map string_bytes c.args.directories.now) c.args.config.now.queue c.args.names.now (g.F.FileSystem.is_bounded c.args.files.now) (g.F.FileSystem.meter c.args.files.now) (g.F.FileSystem.meter c.recover_file.new.files) x)
    c.from_residual-in_err-push.ensures.1 (inr tt)

pub returns-in_err-fd-clause-ok : goal.returns-in_err-fd-clause-ok
returns-in_err-fd-clause-ok g c = not_given _ _ c.from_residual.result c.from_residual.ensures.1

pub returns-in_err-fd-clause-replayed : goal.returns-in_err-fd-clause-replayed
returns-in_err-fd-clause-replayed g c = not_given _ _ c.from_residual.result c.from_residual.ensures.1

pub returns-in_err-fd-clause-refused : goal.returns-in_err-fd-clause-refused
returns-in_err-fd-clause-refused g c = λ any. an_err _ c.from_residual.result c.from_residual.ensures.1

pub returns-in_err-format-clause-ok : goal.returns-in_err-format-clause-ok
returns-in_err-format-clause-ok g c = not_given _ _ c.from_residual-in_err-format.result c.from_residual-in_err-format.ensures.1

pub returns-in_err-format-clause-replayed : goal.returns-in_err-format-clause-replayed
returns-in_err-format-clause-replayed g c = not_given _ _ c.from_residual-in_err-format.result c.from_residual-in_err-format.ensures.1

pub returns-in_err-format-clause-refused : goal.returns-in_err-format-clause-refused
returns-in_err-format-clause-refused g c = λ any. an_err _ c.from_residual-in_err-format.result c.from_residual-in_err-format.ensures.1

pub returns-in_err-push-clause-ok : goal.returns-in_err-push-clause-ok
returns-in_err-push-clause-ok g c = not_given _ _ c.from_residual-in_err-push.result c.from_residual-in_err-push.ensures.1

pub returns-in_err-push-clause-replayed : goal.returns-in_err-push-clause-replayed
returns-in_err-push-clause-replayed g c = not_given _ _ c.from_residual-in_err-push.result c.from_residual-in_err-push.ensures.1

pub returns-in_err-push-clause-refused : goal.returns-in_err-push-clause-refused
returns-in_err-push-clause-refused g c = λ any. an_err _ c.from_residual-in_err-push.result c.from_residual-in_err-push.ensures.1

pub returns-clause-err : goal.returns-clause-err
returns-clause-err g c = tt

pub returns-clause-kept : goal.returns-clause-kept
returns-clause-kept g c = tt

pub returns-clause-cause : goal.returns-clause-cause
returns-clause-cause g c = tt

pub returns-clause-corrupt : goal.returns-clause-corrupt
returns-clause-corrupt g c = λ f e. absurd cc
