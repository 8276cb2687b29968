use Rattle.std.proofs.Common.{◌≡◌, ◌⊎◌, inl, inr, ℕ, ◌+◌, [], ◌∷◌, List, Some, None, length, length-append, map, string_bytes, get_or, ap, sym, subst, ◌∙◌}
use Rattle.std.specs.Prelude.{slice_get}
use Rattle.std.proofs.lemmas.Option.{slice_get-get_or}
use Rattle.raft_log_disk.specs.Disk.{Disk, fd_of}
use Rattle.raft_log_disk.specs.Text.{Text}
use Rattle.raft_log_disk.proofs.RefusalLemmas.{no_more_then}
use Rattle.raft_log_files.specs.declared.error.Error.{Error}
use Rattle.raft_log_files.specs.declared.recovery.RecoveryMode.TheVariants.{AbsoluteConsistency}
use Rattle.raft_log_pipe.proofs.CausedLemmas.{caused_for, told_cause}
use Rattle.raft_log_recovery.specs.declared.scan.FileName.{FileName}
use Rattle.raft_log_recovery.specs.Caused.{AnyUnreadable, AreFilesRefused, IsMissing, IsRefusal}
use Rattle.raft_log_recovery.specs.Queue.{IsFileOf, path_of}
use Rattle.raft_log_recovery.proofs.CausedLemmas.{at_in, refusal_then}
use Rattle.raft_log_recovery.proofs.QueueLemmas.{number_here}
use Rattle.raft_log_workers.proofs.PlaceLemmas.{no_name}
use Rattle.raft_log_workers.proofs.ReadingLemmas.{pushed_at}
use Rattle.raft_log_workers.proofs.share.open_each.Goals as goal

pub open_file-requires-clause-seq : goal.open_file-requires-clause-seq
open_file-requires-clause-seq g c κs within =
    let met = g.met.F.FileSystem g.world.𝓛 g.world.𝓜 g.world.𝓡 ((λ s x. x), (λ x. x), (λ x. x), λ x. x) in
    (number_here AbsoluteConsistency (map string_bytes c.args.directories.now) c.args.queue (length c.args.directories.now) (g.F.FileSystem.disk c.args.files.now) c.args.names.now (met.is_named c.args.files.now) c.requires
    c.loop-name.name-index no_name c.loop-name-test.true).0

pub open_file-requires-clause-place : goal.open_file-requires-clause-place
open_file-requires-clause-place g c κs within =
    let met = g.met.F.FileSystem g.world.𝓛 g.world.𝓜 g.world.𝓡 ((λ s x. x), (λ x. x), (λ x. x), λ x. x) in
    (number_here AbsoluteConsistency (map string_bytes c.args.directories.now) c.args.queue (length c.args.directories.now) (g.F.FileSystem.disk c.args.files.now) c.args.names.now (met.is_named c.args.files.now) c.requires
    c.loop-name.name-index no_name c.loop-name-test.true).1

pub returns-in_err-fd-clause-later : goal.returns-in_err-fd-clause-later
returns-in_err-fd-clause-later g c = no_more_then c.loop-name.invariant.later c.in_err-fd.ensures.later

pub returns-in_err-push-clause-later : goal.returns-in_err-push-clause-later
returns-in_err-push-clause-later g c = no_more_then c.loop-name.invariant.later c.in_ok-fd.ensures.later

pub returns-in_err-fd-clause-cause : goal.returns-in_err-fd-clause-cause
returns-in_err-fd-clause-cause g c =
    let directories : List Text = map string_bytes c.args.directories.now in
    let queue = c.args.queue in
    let cur = g.F.FileSystem.disk c.loop-name.files in
    let a = g.F.FileSystem.meter c.args.files.now in
    let b = g.F.FileSystem.meter c.loop-name.files in
    let e = g.F.FileSystem.meter c.open_file.new.files in
    let name : FileName = get_or c.args.names.now c.loop-name.name-index no_name in
    let free : Type 0 = g.F.FileSystem.is_bounded c.args.files.now in
    let free_then : Type 0 = g.F.FileSystem.is_bounded c.loop-name.files in
    let gone : Type 0 = fd_of cur.names (path_of directories queue name) ≡ None in
    let missing : Type 0 = IsMissing (g.F.FileSystem.disk c.args.files.now) directories queue c.args.names.now in
    told_cause c.from_residual.result c.in_err-fd.field-0.0 (λ (x : Error). AreFilesRefused missing ⊥ directories queue c.args.names.now free a e x) c.from_residual.ensures.1
    (inr (caused_for (IsRefusal free_then ⊥ b e) ⊥ ⊥ gone (IsRefusal free ⊥ a e ⊎ AnyUnreadable directories queue c.args.names.now a) ⊥ ⊥ missing c.in_err-fd.field-0.0
    (λ more. inl (refusal_then free free_then ⊥ ⊥ a b e c.loop-name.invariant.later (λ x. x) more)) (λ x. x) (λ x. x)
    (λ none. (name, at_in c.args.names.now c.loop-name.name-index no_name c.loop-name-test.true, subst (λ (d : Disk). fd_of d.names (path_of directories queue name) ≡ None) c.loop-name.invariant.kept none))
    c.in_err-fd.ensures.cause))

pub loop-name-preserved : goal.loop-name-preserved
loop-name-preserved g c =
    let at = c.loop-name in
    let names : List FileName = c.args.names.now in
    let name : FileName = get_or names at.name-index no_name in
    let directories : List Text = map string_bytes c.args.directories.now in
    let old = g.F.FileSystem.disk c.args.files.now in
    let items = at.shares.items in
    let pushed = c.in_ok-push.ensures.items in
    let there : IsFileOf old directories c.args.queue name c.in_ok-fd.fd.0
    = subst (λ (d : Disk). IsFileOf d directories c.args.queue name c.in_ok-fd.fd.0) at.invariant.kept c.in_ok-fd.ensures.ok in
    let here : slice_get names (length items) ≡ Some name
    = ap (slice_get names) at.invariant.count ∙ slice_get-get_or names at.name-index no_name c.loop-name-test.true in
    record {
      count = ap length pushed ∙ length-append items (_ ∷ []) ∙ ap (λ n. n + 1) at.invariant.count;
      named = subst (λ l. (place : ℕ) (share : _) → slice_get l place ≡ Some share → slice_get names place ≡ Some share.name) (sym pushed)
          (pushed_at (λ place share. slice_get names place ≡ Some share.name) items _ at.invariant.named here);
      opened = subst (λ l. (place : ℕ) (share : _) → slice_get l place ≡ Some share → IsFileOf old directories c.args.queue share.name share.fd.0) (sym pushed)
          (pushed_at (λ place share. IsFileOf old directories c.args.queue share.name share.fd.0) items _ at.invariant.opened there);
      begun = subst (λ l. (place : ℕ) (share : _) → slice_get l place ≡ Some share → g.M.ReplayMachine.has_replayed share.machine []) (sym pushed)
          (pushed_at (λ place share. g.M.ReplayMachine.has_replayed share.machine []) items _ at.invariant.begun c.new_machine.ensures);
      kept = c.open_file.ensures.kept ∙ at.invariant.kept;
      later = no_more_then at.invariant.later c.in_ok-fd.ensures.later;
    }
