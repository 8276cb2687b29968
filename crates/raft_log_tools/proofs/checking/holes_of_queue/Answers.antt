use Rattle.std.proofs.Common.{◌⊎◌, inl, inr, List, [], length, map, string_bytes, arith, refl, sym, subst}
use Rattle.std.specs.declared.alloc.Global.{Global}
use Rattle.std.proofs.lemmas.List.{length-map}
use Rattle.raft_log_disk.specs.Text.{Text}
use Rattle.raft_log_files.specs.declared.error.Error.{Error}
use Rattle.raft_log_files.specs.declared.error.Error.TheVariants.{Memory}
use Rattle.raft_log_pipe.proofs.CausedLemmas.{caused_for, told_cause}
use Rattle.raft_log_recovery.specs.declared.scan.FileKind.TheVariants.{Log}
use Rattle.raft_log_recovery.specs.declared.scan.FileName.{FileName}
use Rattle.raft_log_recovery.specs.Caused.{AnyUnreadable, IsMissing, IsRefusal}
use Rattle.raft_log_recovery.specs.Queue.{AreNumbered}
use Rattle.raft_log_recovery.specs.Scan.{AreFound}
use Rattle.raft_log_recovery.proofs.CausedLemmas.{found_missing}
use Rattle.raft_log_recovery.proofs.FoundLemmas.{found_numbered}
use Rattle.raft_log_tools.specs.Checking.{AnyFoundUnreadable, IsFileRefusal, items_of_files}
use Rattle.raft_log_tools.proofs.ReadLemmas.{told_of_items}
use Rattle.raft_log_tools.proofs.checking.holes_of_queue.Goals as goal

pub replay_each-requires-after_bounds : goal.replay_each-requires-after_bounds
replay_each-requires-after_bounds g c κs within =
    let dirs = c.args.directories.now in
    subst (AreNumbered (length dirs)) (sym c.deref.ensures.value)
    (found_numbered (g.F.FileSystem.disk c.args.files.now) (Log c.args.queue) (map string_bytes dirs) (length dirs) c.in_ok-names.names.items (omega (arith, length-map dirs (string_bytes {Z = Global}))) c.in_ok-names.ensures.ok)

pub returns-clause-ok : goal.returns-clause-ok
returns-clause-ok g c =
    let d = g.F.FileSystem.disk c.args.files.now in
    let directories : List Text = map string_bytes c.args.directories.now in
    let given = c.in_ok-replay_each.ensures.replayed [] c.new_machine-checker.ensures in
    let names : List FileName = c.deref.result.now in (
      items_of_files d directories c.args.queue names,
      record { names = names; found = subst (AreFound d (Log c.args.queue) directories) (sym c.deref.ensures.value) c.in_ok-names.ensures.ok; all = refl },
      told_of_items given.0 (items_of_files d directories c.args.queue names) _ (c.in_ok-finish.ensures given.0 given.1) given.2,
    )

pub returns-in_err-names-clause-cause : goal.returns-in_err-names-clause-cause
returns-in_err-names-clause-cause g c =
    let P : Error → Type 0 = λ e. IsFileRefusal (g.F.FileSystem.disk c.args.files.now) (map string_bytes c.args.directories.now) (g.F.FileSystem.is_bounded c.args.files.now) (g.F.FileSystem.meter c.args.files.now) (g.F.FileSystem.meter c.args.files.now) e in
    told_cause c.from_residual.result c.in_err-names.field-0.0 P c.from_residual.ensures.1 (subst P (sym c.in_err-names.ensures.err) tt)

pub returns-in_err-replay_each-clause-cause : goal.returns-in_err-replay_each-clause-cause
returns-in_err-replay_each-clause-cause g c =
    let d = g.F.FileSystem.disk c.args.files.now in
    let directories : List Text = map string_bytes c.args.directories.now in
    let queue = c.args.queue in
    let names : List FileName = c.deref.result.now in
    let free : Type 0 = g.F.FileSystem.is_bounded c.args.files.now in
    let a = g.F.FileSystem.meter c.args.files.now in
    let b = g.F.FileSystem.meter c.replay_each.new.files in
    let e = c.in_err-replay_each.field-0.0 in
    let found : AreFound d (Log queue) directories names = subst (AreFound d (Log queue) directories) (sym c.deref.ensures.value) c.in_ok-names.ensures.ok in
    let refused : Type 0 = IsRefusal free ⊥ a b ⊎ AnyUnreadable directories queue names a in
    let told : Type 0 = IsRefusal free ⊥ a b ⊎ AnyFoundUnreadable d directories a in
    told_cause c.from_residual-in_err-replay_each.result e (λ (x : Error). IsFileRefusal d directories free a b x) c.from_residual-in_err-replay_each.ensures.1
    (caused_for refused ⊥ ⊥ (IsMissing d directories queue names) told ⊥ ⊥ ⊥ e (λ why. elim why [ inl more ↦ inl more | inr unread ↦ inr (queue, names, found, unread) ]) (λ x. x) (λ x. x)
    (found_missing d queue directories names found) c.in_err-replay_each.ensures.cause)

pub returns-in_err-finish-clause-cause : goal.returns-in_err-finish-clause-cause
returns-in_err-finish-clause-cause g c =
    told_cause c.from_residual-in_err-finish.result Memory (λ (x : Error). IsFileRefusal (g.F.FileSystem.disk c.args.files.now) (map string_bytes c.args.directories.now) (g.F.FileSystem.is_bounded c.args.files.now) (g.F.FileSystem.meter c.args.files.now)
    (g.F.FileSystem.meter c.replay_each.new.files) x) c.from_residual-in_err-finish.ensures.1 tt
