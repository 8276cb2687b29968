use Rattle.std.proofs.Common.{◌≡◌, ◌⊎◌, inl, inr, ◌+◌, ℕ, Result, Ok, IsErrAnd, List, ◌∷◌, ◌++◌, [], refl, sym, ap, subst, arith, ◌∙◌}
use Rattle.std.specs.Prelude.{Err, IsErrOf, OnErr}
use Rattle.std.proofs.lemmas.Result.{err_from_is_err_and}
use Rattle.raft_log_disk.specs.declared.fault.IoFault.{IoFault}
use Rattle.raft_log_disk.specs.declared.fault.IoFault.TheVariants as fault
use Rattle.raft_log_files.specs.declared.error.Error.{Error}
use Rattle.raft_log_files.specs.declared.error.Error.TheVariants.{Memory, Other}
use Rattle.raft_log_files.specs.declared.error.OtherFault.TheVariants.{NumberOutOfSpan}
use Rattle.raft_log_files.specs.Error.{io_error}
use Rattle.raft_log_disk.specs.Cause.{Rises}
use Rattle.raft_log_disk.specs.Disk.{IsIn, IsNoMove}
use Rattle.raft_log_disk.proofs.CauseLemmas.{at_err}
use Rattle.raft_log_disk.proofs.RefusalLemmas.{no_more_call, no_more_same, taken_call}
use Rattle.raft_log_files.specs.FileName.{log_file_name, reserved_name}
use Rattle.raft_log_pipe.specs.declared.file.ReservedFile.{ReservedFile}
use Rattle.raft_log_pipe.specs.Alone.{directories_of_pipe}
use Rattle.raft_log_pipe.specs.Pipe.{first_of, id_of}
use Rattle.raft_log_pipe.specs.Prepared.{number_behind}
use Rattle.raft_log_pipe.specs.Purging.{AreGone}
use Rattle.raft_log_pipe.specs.Reserved.{AreReserved}
use Rattle.raft_log_pipe.specs.Taken.{HasLost}
use Rattle.raft_log_pipe.proofs.AloneLemmas.{with_older}
use Rattle.raft_log_pipe.proofs.CausedLemmas.{call_cause, exit_cause, told_cause}
use Rattle.raft_log_pipe.specs.Caused.{IsCaused}
use Rattle.raft_log_pipe.proofs.KeepLemmas.{keep_free, keep_fresh, keep_gone, keep_kept, keep_lost, keep_lost_before, keep_pipe, keep_purged, keep_stays, keep_vacant}
use Rattle.raft_log_pipe.proofs.PurgeLemmas.{first_number, holds_all}
use Rattle.raft_log_pipe.proofs.ReuseLemmas.{pipe_with}
use Rattle.raft_log_pipe.proofs.TakenLemmas.{exit_error, exit_io, still_taken}
use Rattle.raft_log_pipe.proofs.TrimLemmas.{front_same}
use Rattle.raft_log_pipe.proofs.EndLemmas.{not_ok}
use Rattle.raft_log_pipe.proofs.pipe.SinglePipe.keep_first.Goals as goal

pub build_file_path-requires : goal.build_file_path-requires
build_file_path-requires g c =
    let met = g.met.F.FileSystem g.world.𝓛 g.world.𝓜 g.world.𝓡 ((λ s x. x), (λ x. x), (λ x. x), λ x. x) in
    let p = c.args.self.now in
    let d = g.F.FileSystem.disk c.args.files.now in
    let f = c.args.file in
    omega (arith, (first_number p d f c.requires.pipe c.requires.some c.requires.first).0, c.new-id.ensures.seq)

pub rename-requires : goal.rename-requires
rename-requires g c =
    let met = g.met.F.FileSystem g.world.𝓛 g.world.𝓜 g.world.𝓡 ((λ s x. x), (λ x. x), (λ x. x), λ x. x) in
    let p = c.args.self.now in
    let d = g.F.FileSystem.disk c.args.files.now in
    let f = c.args.file in
    let number : c.number_behind-number.result ≡ number_behind p.reserved.items 1 = c.number_behind-number.ensures ∙ ap (λ (l : List ReservedFile). number_behind l 1) c.deref.ensures.value in
    let dir = c.index.result.now in
    let from = c.as_str.ensures.value ∙ c.in_ok-from.ensures ∙ (λ i. c.as_str-directory.ensures.value i ++ 47 ∷ log_file_name (id_of (c.new-id.ensures.queue i) (c.new-id.ensures.seq i))) in
    let to = c.as_str-2.ensures.value ∙ c.in_ok-to.ensures ∙ (λ i. c.as_str-directory.ensures.value i ++ 47 ∷ reserved_name (number i)) in
    let v = c.remove-first.new.self in
    let named = met.is_named c.args.files.now in
    let at = c.requires.first in
    keep_free p v f d d dir c.as_str.result.now c.as_str-2.result.now c.args.room named named c.requires.pipe c.requires.some at c.remove-first.ensures.items c.requires.can c.index.ensures from to

pub returns-in_err-from-clause-holds : goal.returns-in_err-from-clause-holds
returns-in_err-from-clause-holds g c =
    let met = g.met.F.FileSystem g.world.𝓛 g.world.𝓜 g.world.𝓡 ((λ s x. x), (λ x. x), (λ x. x), λ x. x) in
    let p = c.args.self.now in
    let d = g.F.FileSystem.disk c.args.files.now in
    let f = c.args.file in
    holds_all p d d c.requires.pipe refl

pub returns-in_err-to-clause-holds : goal.returns-in_err-to-clause-holds
returns-in_err-to-clause-holds g c =
    let met = g.met.F.FileSystem g.world.𝓛 g.world.𝓜 g.world.𝓡 ((λ s x. x), (λ x. x), (λ x. x), λ x. x) in
    let p = c.args.self.now in
    let d = g.F.FileSystem.disk c.args.files.now in
    let f = c.args.file in
    holds_all p d d c.requires.pipe refl

pub returns-in_err-rename-clause-holds : goal.returns-in_err-rename-clause-holds
returns-in_err-rename-clause-holds g c =
    let met = g.met.F.FileSystem g.world.𝓛 g.world.𝓜 g.world.𝓡 ((λ s x. x), (λ x. x), (λ x. x), λ x. x) in
    let p = c.args.self.now in
    let d = g.F.FileSystem.disk c.args.files.now in
    let f = c.args.file in
    let number : c.number_behind-number.result ≡ number_behind p.reserved.items 1 = c.number_behind-number.ensures ∙ ap (λ (l : List ReservedFile). number_behind l 1) c.deref.ensures.value in
    let dir = c.index.result.now in
    let from = c.as_str.ensures.value ∙ c.in_ok-from.ensures ∙ (λ i. c.as_str-directory.ensures.value i ++ 47 ∷ log_file_name (id_of (c.new-id.ensures.queue i) (c.new-id.ensures.seq i))) in
    let to = c.as_str-2.ensures.value ∙ c.in_ok-to.ensures ∙ (λ i. c.as_str-directory.ensures.value i ++ 47 ∷ reserved_name (number i)) in
    let v = c.remove-first.new.self in
    let e = g.F.FileSystem.disk c.rename.new.self in
    let named = met.is_named c.args.files.now in
    let named_e = met.is_named c.rename.new.self in
    let at = c.requires.first in
    (keep_purged p v f d e dir c.as_str.result.now c.as_str-2.result.now c.args.room named named_e c.requires.pipe c.requires.some at c.remove-first.ensures.items c.requires.can c.index.ensures from to c.in_err-rename.ensures.err).holds

pub returns-in_err-rename-clause-keeps : goal.returns-in_err-rename-clause-keeps
returns-in_err-rename-clause-keeps g c =
    let met = g.met.F.FileSystem g.world.𝓛 g.world.𝓜 g.world.𝓡 ((λ s x. x), (λ x. x), (λ x. x), λ x. x) in
    let p = c.args.self.now in
    let d = g.F.FileSystem.disk c.args.files.now in
    let f = c.args.file in
    let number : c.number_behind-number.result ≡ number_behind p.reserved.items 1 = c.number_behind-number.ensures ∙ ap (λ (l : List ReservedFile). number_behind l 1) c.deref.ensures.value in
    let dir = c.index.result.now in
    let from = c.as_str.ensures.value ∙ c.in_ok-from.ensures ∙ (λ i. c.as_str-directory.ensures.value i ++ 47 ∷ log_file_name (id_of (c.new-id.ensures.queue i) (c.new-id.ensures.seq i))) in
    let to = c.as_str-2.ensures.value ∙ c.in_ok-to.ensures ∙ (λ i. c.as_str-directory.ensures.value i ++ 47 ∷ reserved_name (number i)) in
    let v = c.remove-first.new.self in
    let e = g.F.FileSystem.disk c.rename.new.self in
    let named = met.is_named c.args.files.now in
    let named_e = met.is_named c.rename.new.self in
    let at = c.requires.first in
    (keep_purged p v f d e dir c.as_str.result.now c.as_str-2.result.now c.args.room named named_e c.requires.pipe c.requires.some at c.remove-first.ensures.items c.requires.can c.index.ensures from to c.in_err-rename.ensures.err).keeps

pub returns-in_err-rename-clause-pipe : goal.returns-in_err-rename-clause-pipe
returns-in_err-rename-clause-pipe g c =
    let met = g.met.F.FileSystem g.world.𝓛 g.world.𝓜 g.world.𝓡 ((λ s x. x), (λ x. x), (λ x. x), λ x. x) in
    let p = c.args.self.now in
    let d = g.F.FileSystem.disk c.args.files.now in
    let f = c.args.file in
    let number : c.number_behind-number.result ≡ number_behind p.reserved.items 1 = c.number_behind-number.ensures ∙ ap (λ (l : List ReservedFile). number_behind l 1) c.deref.ensures.value in
    let dir = c.index.result.now in
    let from = c.as_str.ensures.value ∙ c.in_ok-from.ensures ∙ (λ i. c.as_str-directory.ensures.value i ++ 47 ∷ log_file_name (id_of (c.new-id.ensures.queue i) (c.new-id.ensures.seq i))) in
    let to = c.as_str-2.ensures.value ∙ c.in_ok-to.ensures ∙ (λ i. c.as_str-directory.ensures.value i ++ 47 ∷ reserved_name (number i)) in
    let v = c.remove-first.new.self in
    let e = g.F.FileSystem.disk c.rename.new.self in
    let named = met.is_named c.args.files.now in
    let named_e = met.is_named c.rename.new.self in
    let at = c.requires.first in
    (keep_purged p v f d e dir c.as_str.result.now c.as_str-2.result.now c.args.room named named_e c.requires.pipe c.requires.some at c.remove-first.ensures.items c.requires.can c.index.ensures from to c.in_err-rename.ensures.err).pipe

pub returns-in_err-rename-clause-stays : goal.returns-in_err-rename-clause-stays
returns-in_err-rename-clause-stays g c =
    let met = g.met.F.FileSystem g.world.𝓛 g.world.𝓜 g.world.𝓡 ((λ s x. x), (λ x. x), (λ x. x), λ x. x) in
    let p = c.args.self.now in
    let d = g.F.FileSystem.disk c.args.files.now in
    let f = c.args.file in
    let number : c.number_behind-number.result ≡ number_behind p.reserved.items 1 = c.number_behind-number.ensures ∙ ap (λ (l : List ReservedFile). number_behind l 1) c.deref.ensures.value in
    let dir = c.index.result.now in
    let from = c.as_str.ensures.value ∙ c.in_ok-from.ensures ∙ (λ i. c.as_str-directory.ensures.value i ++ 47 ∷ log_file_name (id_of (c.new-id.ensures.queue i) (c.new-id.ensures.seq i))) in
    let to = c.as_str-2.ensures.value ∙ c.in_ok-to.ensures ∙ (λ i. c.as_str-directory.ensures.value i ++ 47 ∷ reserved_name (number i)) in
    let v = c.remove-first.new.self in
    let e = g.F.FileSystem.disk c.rename.new.self in
    let named = met.is_named c.args.files.now in
    let named_e = met.is_named c.rename.new.self in
    let at = c.requires.first in
    at_err _ ((e ≡ d) ⊎ AreGone p (with_older p v) e) (keep_stays p v f d e dir c.as_str.result.now c.as_str-2.result.now c.args.room named named_e c.requires.pipe c.requires.some at c.remove-first.ensures.items c.requires.can c.index.ensures from to c.in_err-rename.ensures.err)

pub returns-in_err-push-clause-holds : goal.returns-in_err-push-clause-holds
returns-in_err-push-clause-holds g c =
    let met = g.met.F.FileSystem g.world.𝓛 g.world.𝓜 g.world.𝓡 ((λ s x. x), (λ x. x), (λ x. x), λ x. x) in
    let p = c.args.self.now in
    let d = g.F.FileSystem.disk c.args.files.now in
    let f = c.args.file in
    let number : c.number_behind-number.result ≡ number_behind p.reserved.items 1 = c.number_behind-number.ensures ∙ ap (λ (l : List ReservedFile). number_behind l 1) c.deref.ensures.value in
    let dir = c.index.result.now in
    let from = c.as_str.ensures.value ∙ c.in_ok-from.ensures ∙ (λ i. c.as_str-directory.ensures.value i ++ 47 ∷ log_file_name (id_of (c.new-id.ensures.queue i) (c.new-id.ensures.seq i))) in
    let to = c.as_str-2.ensures.value ∙ c.in_ok-to.ensures ∙ (λ i. c.as_str-directory.ensures.value i ++ 47 ∷ reserved_name (number i)) in
    let v = c.remove-first.new.self in
    let e = g.F.FileSystem.disk c.rename.new.self in
    let named = met.is_named c.args.files.now in
    let named_e = met.is_named c.rename.new.self in
    let at = c.requires.first in
    (keep_purged p v f d e dir c.as_str.result.now c.as_str-2.result.now c.args.room named named_e c.requires.pipe c.requires.some at c.remove-first.ensures.items c.requires.can c.index.ensures from to (inr c.in_ok-rename.ensures.ok)).holds

pub returns-in_err-push-clause-keeps : goal.returns-in_err-push-clause-keeps
returns-in_err-push-clause-keeps g c =
    let met = g.met.F.FileSystem g.world.𝓛 g.world.𝓜 g.world.𝓡 ((λ s x. x), (λ x. x), (λ x. x), λ x. x) in
    let p = c.args.self.now in
    let d = g.F.FileSystem.disk c.args.files.now in
    let f = c.args.file in
    let number : c.number_behind-number.result ≡ number_behind p.reserved.items 1 = c.number_behind-number.ensures ∙ ap (λ (l : List ReservedFile). number_behind l 1) c.deref.ensures.value in
    let dir = c.index.result.now in
    let from = c.as_str.ensures.value ∙ c.in_ok-from.ensures ∙ (λ i. c.as_str-directory.ensures.value i ++ 47 ∷ log_file_name (id_of (c.new-id.ensures.queue i) (c.new-id.ensures.seq i))) in
    let to = c.as_str-2.ensures.value ∙ c.in_ok-to.ensures ∙ (λ i. c.as_str-directory.ensures.value i ++ 47 ∷ reserved_name (number i)) in
    let v = c.remove-first.new.self in
    let e = g.F.FileSystem.disk c.rename.new.self in
    let named = met.is_named c.args.files.now in
    let named_e = met.is_named c.rename.new.self in
    let at = c.requires.first in
    (keep_purged p v f d e dir c.as_str.result.now c.as_str-2.result.now c.args.room named named_e c.requires.pipe c.requires.some at c.remove-first.ensures.items c.requires.can c.index.ensures from to (inr c.in_ok-rename.ensures.ok)).keeps

pub returns-in_err-push-clause-pipe : goal.returns-in_err-push-clause-pipe
returns-in_err-push-clause-pipe g c =
    let met = g.met.F.FileSystem g.world.𝓛 g.world.𝓜 g.world.𝓡 ((λ s x. x), (λ x. x), (λ x. x), λ x. x) in
    let p = c.args.self.now in
    let d = g.F.FileSystem.disk c.args.files.now in
    let f = c.args.file in
    let number : c.number_behind-number.result ≡ number_behind p.reserved.items 1 = c.number_behind-number.ensures ∙ ap (λ (l : List ReservedFile). number_behind l 1) c.deref.ensures.value in
    let dir = c.index.result.now in
    let from = c.as_str.ensures.value ∙ c.in_ok-from.ensures ∙ (λ i. c.as_str-directory.ensures.value i ++ 47 ∷ log_file_name (id_of (c.new-id.ensures.queue i) (c.new-id.ensures.seq i))) in
    let to = c.as_str-2.ensures.value ∙ c.in_ok-to.ensures ∙ (λ i. c.as_str-directory.ensures.value i ++ 47 ∷ reserved_name (number i)) in
    let v = c.remove-first.new.self in
    let e = g.F.FileSystem.disk c.rename.new.self in
    let named = met.is_named c.args.files.now in
    let named_e = met.is_named c.rename.new.self in
    let at = c.requires.first in
    let left = (keep_purged p v f d e dir c.as_str.result.now c.as_str-2.result.now c.args.room named named_e c.requires.pipe c.requires.some at c.remove-first.ensures.items c.requires.can c.index.ensures from to (inr c.in_ok-rename.ensures.ok)).pipe in
    pipe_with (with_older p v) e c.push.new.self p.capacity left (subst (AreReserved p.queue (directories_of_pipe p) e) (sym c.in_err-push.ensures.items) left.reserved)

pub returns-in_err-push-clause-stays : goal.returns-in_err-push-clause-stays
returns-in_err-push-clause-stays g c =
    let met = g.met.F.FileSystem g.world.𝓛 g.world.𝓜 g.world.𝓡 ((λ s x. x), (λ x. x), (λ x. x), λ x. x) in
    let p = c.args.self.now in
    let d = g.F.FileSystem.disk c.args.files.now in
    let f = c.args.file in
    let number : c.number_behind-number.result ≡ number_behind p.reserved.items 1 = c.number_behind-number.ensures ∙ ap (λ (l : List ReservedFile). number_behind l 1) c.deref.ensures.value in
    let dir = c.index.result.now in
    let from = c.as_str.ensures.value ∙ c.in_ok-from.ensures ∙ (λ i. c.as_str-directory.ensures.value i ++ 47 ∷ log_file_name (id_of (c.new-id.ensures.queue i) (c.new-id.ensures.seq i))) in
    let to = c.as_str-2.ensures.value ∙ c.in_ok-to.ensures ∙ (λ i. c.as_str-directory.ensures.value i ++ 47 ∷ reserved_name (number i)) in
    let v = c.remove-first.new.self in
    let e = g.F.FileSystem.disk c.rename.new.self in
    let named = met.is_named c.args.files.now in
    let named_e = met.is_named c.rename.new.self in
    let at = c.requires.first in
    at_err _ ((e ≡ d) ⊎ AreGone p (with_older p v) e) (keep_stays p v f d e dir c.as_str.result.now c.as_str-2.result.now c.args.room named named_e c.requires.pipe c.requires.some at c.remove-first.ensures.items c.requires.can c.index.ensures from to (inr c.in_ok-rename.ensures.ok))

pub returns-clause-holds : goal.returns-clause-holds
returns-clause-holds g c =
    let met = g.met.F.FileSystem g.world.𝓛 g.world.𝓜 g.world.𝓡 ((λ s x. x), (λ x. x), (λ x. x), λ x. x) in
    let p = c.args.self.now in
    let d = g.F.FileSystem.disk c.args.files.now in
    let f = c.args.file in
    let number : c.number_behind-number.result ≡ number_behind p.reserved.items 1 = c.number_behind-number.ensures ∙ ap (λ (l : List ReservedFile). number_behind l 1) c.deref.ensures.value in
    let dir = c.index.result.now in
    let from = c.as_str.ensures.value ∙ c.in_ok-from.ensures ∙ (λ i. c.as_str-directory.ensures.value i ++ 47 ∷ log_file_name (id_of (c.new-id.ensures.queue i) (c.new-id.ensures.seq i))) in
    let to = c.as_str-2.ensures.value ∙ c.in_ok-to.ensures ∙ (λ i. c.as_str-directory.ensures.value i ++ 47 ∷ reserved_name (number i)) in
    let v = c.remove-first.new.self in
    let e = g.F.FileSystem.disk c.rename.new.self in
    let named = met.is_named c.args.files.now in
    let named_e = met.is_named c.rename.new.self in
    let at = c.requires.first in
    (keep_purged p v f d e dir c.as_str.result.now c.as_str-2.result.now c.args.room named named_e c.requires.pipe c.requires.some at c.remove-first.ensures.items c.requires.can c.index.ensures from to (inr c.in_ok-rename.ensures.ok)).holds

pub returns-clause-keeps : goal.returns-clause-keeps
returns-clause-keeps g c =
    let met = g.met.F.FileSystem g.world.𝓛 g.world.𝓜 g.world.𝓡 ((λ s x. x), (λ x. x), (λ x. x), λ x. x) in
    let p = c.args.self.now in
    let d = g.F.FileSystem.disk c.args.files.now in
    let f = c.args.file in
    let number : c.number_behind-number.result ≡ number_behind p.reserved.items 1 = c.number_behind-number.ensures ∙ ap (λ (l : List ReservedFile). number_behind l 1) c.deref.ensures.value in
    let dir = c.index.result.now in
    let from = c.as_str.ensures.value ∙ c.in_ok-from.ensures ∙ (λ i. c.as_str-directory.ensures.value i ++ 47 ∷ log_file_name (id_of (c.new-id.ensures.queue i) (c.new-id.ensures.seq i))) in
    let to = c.as_str-2.ensures.value ∙ c.in_ok-to.ensures ∙ (λ i. c.as_str-directory.ensures.value i ++ 47 ∷ reserved_name (number i)) in
    let v = c.remove-first.new.self in
    let e = g.F.FileSystem.disk c.rename.new.self in
    let named = met.is_named c.args.files.now in
    let named_e = met.is_named c.rename.new.self in
    let at = c.requires.first in
    (keep_purged p v f d e dir c.as_str.result.now c.as_str-2.result.now c.args.room named named_e c.requires.pipe c.requires.some at c.remove-first.ensures.items c.requires.can c.index.ensures from to (inr c.in_ok-rename.ensures.ok)).keeps

pub returns-clause-pipe : goal.returns-clause-pipe
returns-clause-pipe g c =
    let met = g.met.F.FileSystem g.world.𝓛 g.world.𝓜 g.world.𝓡 ((λ s x. x), (λ x. x), (λ x. x), λ x. x) in
    let p = c.args.self.now in
    let d = g.F.FileSystem.disk c.args.files.now in
    let f = c.args.file in
    let number : c.number_behind-number.result ≡ number_behind p.reserved.items 1 = c.number_behind-number.ensures ∙ ap (λ (l : List ReservedFile). number_behind l 1) c.deref.ensures.value in
    let dir = c.index.result.now in
    let from = c.as_str.ensures.value ∙ c.in_ok-from.ensures ∙ (λ i. c.as_str-directory.ensures.value i ++ 47 ∷ log_file_name (id_of (c.new-id.ensures.queue i) (c.new-id.ensures.seq i))) in
    let to = c.as_str-2.ensures.value ∙ c.in_ok-to.ensures ∙ (λ i. c.as_str-directory.ensures.value i ++ 47 ∷ reserved_name (number i)) in
    let v = c.remove-first.new.self in
    let e = g.F.FileSystem.disk c.rename.new.self in
    let named = met.is_named c.args.files.now in
    let named_e = met.is_named c.rename.new.self in
    let at = c.requires.first in
    keep_pipe p v f d e dir c.as_str.result.now c.as_str-2.result.now c.args.room named named_e c.requires.pipe c.requires.some at c.remove-first.ensures.items c.requires.can c.index.ensures from to c.in_ok-rename.ensures.ok c.push.new.self (c.in_ok-push.ensures.items ∙ ap (λ (n : ℕ). p.reserved.items ++ record { seq = n; path_id = f.path_id } ∷ []) number)

pub returns-clause-kept : goal.returns-clause-kept
returns-clause-kept g c =
    let met = g.met.F.FileSystem g.world.𝓛 g.world.𝓜 g.world.𝓡 ((λ s x. x), (λ x. x), (λ x. x), λ x. x) in
    let p = c.args.self.now in
    let d = g.F.FileSystem.disk c.args.files.now in
    let f = c.args.file in
    let number : c.number_behind-number.result ≡ number_behind p.reserved.items 1 = c.number_behind-number.ensures ∙ ap (λ (l : List ReservedFile). number_behind l 1) c.deref.ensures.value in
    let dir = c.index.result.now in
    let from = c.as_str.ensures.value ∙ c.in_ok-from.ensures ∙ (λ i. c.as_str-directory.ensures.value i ++ 47 ∷ log_file_name (id_of (c.new-id.ensures.queue i) (c.new-id.ensures.seq i))) in
    let to = c.as_str-2.ensures.value ∙ c.in_ok-to.ensures ∙ (λ i. c.as_str-directory.ensures.value i ++ 47 ∷ reserved_name (number i)) in
    let v = c.remove-first.new.self in
    let e = g.F.FileSystem.disk c.rename.new.self in
    let named = met.is_named c.args.files.now in
    let named_e = met.is_named c.rename.new.self in
    let at = c.requires.first in
    keep_kept p v f d e dir c.as_str.result.now c.as_str-2.result.now c.args.room named named_e c.requires.pipe c.requires.some at c.remove-first.ensures.items c.requires.can c.index.ensures from to c.in_ok-rename.ensures.ok c.push.new.self (c.in_ok-push.ensures.items ∙ ap (λ (n : ℕ). p.reserved.items ++ record { seq = n; path_id = f.path_id } ∷ []) number)

pub returns-clause-fresh : goal.returns-clause-fresh
returns-clause-fresh g c =
    let met = g.met.F.FileSystem g.world.𝓛 g.world.𝓜 g.world.𝓡 ((λ s x. x), (λ x. x), (λ x. x), λ x. x) in
    let p = c.args.self.now in
    let d = g.F.FileSystem.disk c.args.files.now in
    let f = c.args.file in
    let number : c.number_behind-number.result ≡ number_behind p.reserved.items 1 = c.number_behind-number.ensures ∙ ap (λ (l : List ReservedFile). number_behind l 1) c.deref.ensures.value in
    let dir = c.index.result.now in
    let from = c.as_str.ensures.value ∙ c.in_ok-from.ensures ∙ (λ i. c.as_str-directory.ensures.value i ++ 47 ∷ log_file_name (id_of (c.new-id.ensures.queue i) (c.new-id.ensures.seq i))) in
    let to = c.as_str-2.ensures.value ∙ c.in_ok-to.ensures ∙ (λ i. c.as_str-directory.ensures.value i ++ 47 ∷ reserved_name (number i)) in
    let v = c.remove-first.new.self in
    let e = g.F.FileSystem.disk c.rename.new.self in
    let named = met.is_named c.args.files.now in
    let named_e = met.is_named c.rename.new.self in
    let at = c.requires.first in
    keep_fresh p v f d e dir c.as_str.result.now c.as_str-2.result.now c.args.room named named_e c.requires.pipe c.requires.some at c.remove-first.ensures.items c.requires.can c.index.ensures from to c.in_ok-rename.ensures.ok c.push.new.self (c.in_ok-push.ensures.items ∙ ap (λ (n : ℕ). p.reserved.items ++ record { seq = n; path_id = f.path_id } ∷ []) number)

pub returns-clause-gone : goal.returns-clause-gone
returns-clause-gone g c =
    let met = g.met.F.FileSystem g.world.𝓛 g.world.𝓜 g.world.𝓡 ((λ s x. x), (λ x. x), (λ x. x), λ x. x) in
    let p = c.args.self.now in
    let d = g.F.FileSystem.disk c.args.files.now in
    let f = c.args.file in
    let number : c.number_behind-number.result ≡ number_behind p.reserved.items 1 = c.number_behind-number.ensures ∙ ap (λ (l : List ReservedFile). number_behind l 1) c.deref.ensures.value in
    let dir = c.index.result.now in
    let from = c.as_str.ensures.value ∙ c.in_ok-from.ensures ∙ (λ i. c.as_str-directory.ensures.value i ++ 47 ∷ log_file_name (id_of (c.new-id.ensures.queue i) (c.new-id.ensures.seq i))) in
    let to = c.as_str-2.ensures.value ∙ c.in_ok-to.ensures ∙ (λ i. c.as_str-directory.ensures.value i ++ 47 ∷ reserved_name (number i)) in
    let v = c.remove-first.new.self in
    let e = g.F.FileSystem.disk c.rename.new.self in
    let named = met.is_named c.args.files.now in
    let named_e = met.is_named c.rename.new.self in
    let at = c.requires.first in
    keep_gone p v f d e dir c.as_str.result.now c.as_str-2.result.now c.args.room named named_e c.requires.pipe c.requires.some at c.remove-first.ensures.items c.requires.can c.index.ensures from to c.in_ok-rename.ensures.ok

pub returns-clause-lost : goal.returns-clause-lost
returns-clause-lost g c =
    let met = g.met.F.FileSystem g.world.𝓛 g.world.𝓜 g.world.𝓡 ((λ s x. x), (λ x. x), (λ x. x), λ x. x) in
    let p = c.args.self.now in
    let d = g.F.FileSystem.disk c.args.files.now in
    let f = c.args.file in
    let number : c.number_behind-number.result ≡ number_behind p.reserved.items 1 = c.number_behind-number.ensures ∙ ap (λ (l : List ReservedFile). number_behind l 1) c.deref.ensures.value in
    let dir = c.index.result.now in
    let from = c.as_str.ensures.value ∙ c.in_ok-from.ensures ∙ (λ i. c.as_str-directory.ensures.value i ++ 47 ∷ log_file_name (id_of (c.new-id.ensures.queue i) (c.new-id.ensures.seq i))) in
    let to = c.as_str-2.ensures.value ∙ c.in_ok-to.ensures ∙ (λ i. c.as_str-directory.ensures.value i ++ 47 ∷ reserved_name (number i)) in
    let v = c.remove-first.new.self in
    let e = g.F.FileSystem.disk c.rename.new.self in
    let named = met.is_named c.args.files.now in
    let named_e = met.is_named c.rename.new.self in
    let at = c.requires.first in
    keep_lost_before p v f d e dir c.as_str.result.now c.as_str-2.result.now c.args.room named named_e c.requires.pipe c.requires.some at c.remove-first.ensures.items c.requires.can c.index.ensures from to c.in_ok-rename.ensures.ok

pub returns-in_err-rename-clause-taken : goal.returns-in_err-rename-clause-taken
returns-in_err-rename-clause-taken g c =
    let met = g.met.F.FileSystem g.world.𝓛 g.world.𝓜 g.world.𝓡 ((λ s x. x), (λ x. x), (λ x. x), λ x. x) in
    let p = c.args.self.now in
    let d = g.F.FileSystem.disk c.args.files.now in
    let f = c.args.file in
    let number : c.number_behind-number.result ≡ number_behind p.reserved.items 1 = c.number_behind-number.ensures ∙ ap (λ (l : List ReservedFile). number_behind l 1) c.deref.ensures.value in
    let dir = c.index.result.now in
    let from = c.as_str.ensures.value ∙ c.in_ok-from.ensures ∙ (λ i. c.as_str-directory.ensures.value i ++ 47 ∷ log_file_name (id_of (c.new-id.ensures.queue i) (c.new-id.ensures.seq i))) in
    let to = c.as_str-2.ensures.value ∙ c.in_ok-to.ensures ∙ (λ i. c.as_str-directory.ensures.value i ++ 47 ∷ reserved_name (number i)) in
    let v = c.remove-first.new.self in
    let e = g.F.FileSystem.disk c.rename.new.self in
    let named = met.is_named c.args.files.now in
    let named_e = met.is_named c.rename.new.self in
    let at = c.requires.first in
    let a = g.F.FileSystem.meter c.args.files.now in
    let b = g.F.FileSystem.meter c.rename.new.self in
    let absent : Type 0 = IsNoMove d c.as_str.result.now c.as_str-2.result.now in
    let barred : Type 0 = IsIn c.as_str-2.result.now d.directories in
    let lost : Type 0 = HasLost p d (first_of p + 1) in
    λ free.
    exit_io (Unit {0}) (Unit {0}) ⊥ lost ⊥ c.from_residual-in_err-rename.result c.in_err-rename.field-0.0 c.from_residual-in_err-rename.ensures.1
    (still_taken (Unit {0}) (Unit {0}) absent barred lost ⊥ c.in_err-rename.field-0.0 (keep_lost p v f d e dir c.as_str.result.now c.as_str-2.result.now c.args.room named named_e c.requires.pipe c.requires.some at c.remove-first.ensures.items c.requires.can c.index.ensures from to) (keep_vacant p v f d e dir c.as_str.result.now c.as_str-2.result.now c.args.room named named_e c.requires.pipe c.requires.some at c.remove-first.ensures.items c.requires.can c.index.ensures from to)
    (taken_call absent ⊥ barred _ a b (Err c.in_err-rename.field-0.0) (λ x. absurd x) free c.in_err-rename.ensures.cause c.in_err-rename.ensures.call))

pub returns-in_err-rename-clause-cause : goal.returns-in_err-rename-clause-cause
returns-in_err-rename-clause-cause g c =
    let met = g.met.F.FileSystem g.world.𝓛 g.world.𝓜 g.world.𝓡 ((λ s x. x), (λ x. x), (λ x. x), λ x. x) in
    let p = c.args.self.now in
    let d = g.F.FileSystem.disk c.args.files.now in
    let f = c.args.file in
    let number : c.number_behind-number.result ≡ number_behind p.reserved.items 1 = c.number_behind-number.ensures ∙ ap (λ (l : List ReservedFile). number_behind l 1) c.deref.ensures.value in
    let dir = c.index.result.now in
    let from = c.as_str.ensures.value ∙ c.in_ok-from.ensures ∙ (λ i. c.as_str-directory.ensures.value i ++ 47 ∷ log_file_name (id_of (c.new-id.ensures.queue i) (c.new-id.ensures.seq i))) in
    let to = c.as_str-2.ensures.value ∙ c.in_ok-to.ensures ∙ (λ i. c.as_str-directory.ensures.value i ++ 47 ∷ reserved_name (number i)) in
    let v = c.remove-first.new.self in
    let e = g.F.FileSystem.disk c.rename.new.self in
    let named = met.is_named c.args.files.now in
    let named_e = met.is_named c.rename.new.self in
    let at = c.requires.first in
    let a = g.F.FileSystem.meter c.args.files.now in
    let b = g.F.FileSystem.meter c.rename.new.self in
    let absent : Type 0 = IsNoMove d c.as_str.result.now c.as_str-2.result.now in
    let barred : Type 0 = IsIn c.as_str-2.result.now d.directories in
    let lost : Type 0 = HasLost p d (first_of p + 1) in
    exit_cause (Unit {0}) (Rises 1 a b) ⊥ ⊥ lost c.from_residual-in_err-rename.result c.in_err-rename.field-0.0 c.from_residual-in_err-rename.ensures.1
    (still_taken (Unit {0}) (Unit {0}) absent (Rises 1 a b) lost (Rises 1 a b) c.in_err-rename.field-0.0 (keep_lost p v f d e dir c.as_str.result.now c.as_str-2.result.now c.args.room named named_e c.requires.pipe c.requires.some at c.remove-first.ensures.items c.requires.can c.index.ensures from to) (λ x. x)
    (call_cause (Unit {0}) (Unit {0}) absent ⊥ a b c.in_err-rename.field-0.0 c.in_err-rename.ensures.cause))

-- ---- what an early end leaves, and why it came

at_end : {T E : Type 0} (Q : E → Type 0) (P : Type 0) (r : Result T E) → IsErrAnd r Q → P → OnErr r P
at_end Q P r is x = let p = err_from_is_err_and r is in rw p.1 x

in_span : {T : Type 0} (r : Result T Error) (e : Error) → IsErrAnd r (λ y. y ≡ e) → (e ≡ Other NumberOutOfSpan → ⊥) → IsErrOf r (Other NumberOutOfSpan) → ⊥
in_span r e is other h = let p = err_from_is_err_and r is in let same : e ≡ Other NumberOutOfSpan = cc in other same

io_in_span : (x : IoFault) → io_error x ≡ Other NumberOutOfSpan → ⊥
io_in_span fault.Memory h = absurd cc
io_in_span fault.Refused h = absurd cc
io_in_span fault.NoSpace h = absurd cc
io_in_span fault.NotFound h = absurd cc

pub returns-in_err-from-clause-ok : goal.returns-in_err-from-clause-ok
returns-in_err-from-clause-ok g c = not_ok _ _ c.from_residual.result c.from_residual.ensures.1

pub returns-in_err-from-clause-kept : goal.returns-in_err-from-clause-kept
returns-in_err-from-clause-kept g c = not_ok _ _ c.from_residual.result c.from_residual.ensures.1

pub returns-in_err-from-clause-fresh : goal.returns-in_err-from-clause-fresh
returns-in_err-from-clause-fresh g c = not_ok _ _ c.from_residual.result c.from_residual.ensures.1

pub returns-in_err-from-clause-gone : goal.returns-in_err-from-clause-gone
returns-in_err-from-clause-gone g c = not_ok _ _ c.from_residual.result c.from_residual.ensures.1

pub returns-in_err-from-clause-lost : goal.returns-in_err-from-clause-lost
returns-in_err-from-clause-lost g c = not_ok _ _ c.from_residual.result c.from_residual.ensures.1

pub returns-in_err-from-clause-told : goal.returns-in_err-from-clause-told
returns-in_err-from-clause-told g c = in_span c.from_residual.result Memory c.from_residual.ensures.1 (λ h. absurd cc)

pub returns-in_err-to-clause-ok : goal.returns-in_err-to-clause-ok
returns-in_err-to-clause-ok g c = not_ok _ _ c.from_residual-in_err-to.result c.from_residual-in_err-to.ensures.1

pub returns-in_err-to-clause-kept : goal.returns-in_err-to-clause-kept
returns-in_err-to-clause-kept g c = not_ok _ _ c.from_residual-in_err-to.result c.from_residual-in_err-to.ensures.1

pub returns-in_err-to-clause-fresh : goal.returns-in_err-to-clause-fresh
returns-in_err-to-clause-fresh g c = not_ok _ _ c.from_residual-in_err-to.result c.from_residual-in_err-to.ensures.1

pub returns-in_err-to-clause-gone : goal.returns-in_err-to-clause-gone
returns-in_err-to-clause-gone g c = not_ok _ _ c.from_residual-in_err-to.result c.from_residual-in_err-to.ensures.1

pub returns-in_err-to-clause-lost : goal.returns-in_err-to-clause-lost
returns-in_err-to-clause-lost g c = not_ok _ _ c.from_residual-in_err-to.result c.from_residual-in_err-to.ensures.1

pub returns-in_err-to-clause-told : goal.returns-in_err-to-clause-told
returns-in_err-to-clause-told g c = in_span c.from_residual-in_err-to.result Memory c.from_residual-in_err-to.ensures.1 (λ h. absurd cc)

pub returns-in_err-rename-clause-ok : goal.returns-in_err-rename-clause-ok
returns-in_err-rename-clause-ok g c = not_ok _ _ c.from_residual-in_err-rename.result c.from_residual-in_err-rename.ensures.1

pub returns-in_err-rename-clause-kept : goal.returns-in_err-rename-clause-kept
returns-in_err-rename-clause-kept g c = not_ok _ _ c.from_residual-in_err-rename.result c.from_residual-in_err-rename.ensures.1

pub returns-in_err-rename-clause-fresh : goal.returns-in_err-rename-clause-fresh
returns-in_err-rename-clause-fresh g c = not_ok _ _ c.from_residual-in_err-rename.result c.from_residual-in_err-rename.ensures.1

pub returns-in_err-rename-clause-gone : goal.returns-in_err-rename-clause-gone
returns-in_err-rename-clause-gone g c = not_ok _ _ c.from_residual-in_err-rename.result c.from_residual-in_err-rename.ensures.1

pub returns-in_err-rename-clause-lost : goal.returns-in_err-rename-clause-lost
returns-in_err-rename-clause-lost g c = not_ok _ _ c.from_residual-in_err-rename.result c.from_residual-in_err-rename.ensures.1

pub returns-in_err-rename-clause-told : goal.returns-in_err-rename-clause-told
returns-in_err-rename-clause-told g c = in_span c.from_residual-in_err-rename.result (io_error c.in_err-rename.field-0.0) c.from_residual-in_err-rename.ensures.1 (io_in_span c.in_err-rename.field-0.0)

pub returns-in_err-push-clause-ok : goal.returns-in_err-push-clause-ok
returns-in_err-push-clause-ok g c = not_ok _ _ c.from_residual-in_err-push.result c.from_residual-in_err-push.ensures.1

pub returns-in_err-push-clause-kept : goal.returns-in_err-push-clause-kept
returns-in_err-push-clause-kept g c = not_ok _ _ c.from_residual-in_err-push.result c.from_residual-in_err-push.ensures.1

pub returns-in_err-push-clause-fresh : goal.returns-in_err-push-clause-fresh
returns-in_err-push-clause-fresh g c = not_ok _ _ c.from_residual-in_err-push.result c.from_residual-in_err-push.ensures.1

pub returns-in_err-push-clause-gone : goal.returns-in_err-push-clause-gone
returns-in_err-push-clause-gone g c = not_ok _ _ c.from_residual-in_err-push.result c.from_residual-in_err-push.ensures.1

pub returns-in_err-push-clause-lost : goal.returns-in_err-push-clause-lost
returns-in_err-push-clause-lost g c = not_ok _ _ c.from_residual-in_err-push.result c.from_residual-in_err-push.ensures.1

pub returns-in_err-push-clause-told : goal.returns-in_err-push-clause-told
returns-in_err-push-clause-told g c = in_span c.from_residual-in_err-push.result Memory c.from_residual-in_err-push.ensures.1 (λ h. absurd cc)

pub returns-in_err-from-clause-front : goal.returns-in_err-from-clause-front
returns-in_err-from-clause-front g c = front_same c.args.self.now.reserved.items _ refl

pub returns-in_err-from-clause-later : goal.returns-in_err-from-clause-later
returns-in_err-from-clause-later g c = no_more_same (g.F.FileSystem.is_bounded c.args.files.now) (g.F.FileSystem.meter c.args.files.now)

pub returns-in_err-from-clause-err : goal.returns-in_err-from-clause-err
returns-in_err-from-clause-err g c = at_end _ _ c.from_residual.result c.from_residual.ensures.1 (inr refl)

pub returns-in_err-from-clause-stays : goal.returns-in_err-from-clause-stays
returns-in_err-from-clause-stays g c = at_end _ _ c.from_residual.result c.from_residual.ensures.1 (inl refl)

pub returns-in_err-to-clause-front : goal.returns-in_err-to-clause-front
returns-in_err-to-clause-front g c = front_same c.args.self.now.reserved.items _ refl

pub returns-in_err-to-clause-later : goal.returns-in_err-to-clause-later
returns-in_err-to-clause-later g c = no_more_same (g.F.FileSystem.is_bounded c.args.files.now) (g.F.FileSystem.meter c.args.files.now)

pub returns-in_err-to-clause-err : goal.returns-in_err-to-clause-err
returns-in_err-to-clause-err g c = at_end _ _ c.from_residual-in_err-to.result c.from_residual-in_err-to.ensures.1 (inr refl)

pub returns-in_err-to-clause-stays : goal.returns-in_err-to-clause-stays
returns-in_err-to-clause-stays g c = at_end _ _ c.from_residual-in_err-to.result c.from_residual-in_err-to.ensures.1 (inl refl)

pub returns-in_err-from-clause-taken : goal.returns-in_err-from-clause-taken
returns-in_err-from-clause-taken g c = λ free. exit_error ⊥ (HasLost c.args.self.now (g.F.FileSystem.disk c.args.files.now) (first_of c.args.self.now + 1)) ⊥ c.from_residual.result Memory c.from_residual.ensures.1 tt

pub returns-in_err-from-clause-cause : goal.returns-in_err-from-clause-cause
returns-in_err-from-clause-cause g c =
    let rises : Type 0 = Rises 1 (g.F.FileSystem.meter c.args.files.now) (g.F.FileSystem.meter c.args.files.now) in
    told_cause c.from_residual.result Memory (λ e. IsCaused rises ⊥ ⊥ (HasLost c.args.self.now (g.F.FileSystem.disk c.args.files.now) (first_of c.args.self.now + 1)) e) c.from_residual.ensures.1 tt

pub returns-in_err-to-clause-taken : goal.returns-in_err-to-clause-taken
returns-in_err-to-clause-taken g c = λ free. exit_error ⊥ (HasLost c.args.self.now (g.F.FileSystem.disk c.args.files.now) (first_of c.args.self.now + 1)) ⊥ c.from_residual-in_err-to.result Memory c.from_residual-in_err-to.ensures.1 tt

pub returns-in_err-to-clause-cause : goal.returns-in_err-to-clause-cause
returns-in_err-to-clause-cause g c =
    let rises : Type 0 = Rises 1 (g.F.FileSystem.meter c.args.files.now) (g.F.FileSystem.meter c.args.files.now) in
    told_cause c.from_residual-in_err-to.result Memory (λ e. IsCaused rises ⊥ ⊥ (HasLost c.args.self.now (g.F.FileSystem.disk c.args.files.now) (first_of c.args.self.now + 1)) e) c.from_residual-in_err-to.ensures.1 tt

pub returns-in_err-push-clause-taken : goal.returns-in_err-push-clause-taken
returns-in_err-push-clause-taken g c = λ free. exit_error ⊥ (HasLost c.args.self.now (g.F.FileSystem.disk c.args.files.now) (first_of c.args.self.now + 1)) ⊥ c.from_residual-in_err-push.result Memory c.from_residual-in_err-push.ensures.1 tt

pub returns-in_err-push-clause-cause : goal.returns-in_err-push-clause-cause
returns-in_err-push-clause-cause g c =
    let rises : Type 0 = Rises 1 (g.F.FileSystem.meter c.args.files.now) (g.F.FileSystem.meter c.rename.new.self) in
    told_cause c.from_residual-in_err-push.result Memory (λ e. IsCaused rises ⊥ ⊥ (HasLost c.args.self.now (g.F.FileSystem.disk c.args.files.now) (first_of c.args.self.now + 1)) e) c.from_residual-in_err-push.ensures.1 tt

pub returns-in_err-rename-clause-later : goal.returns-in_err-rename-clause-later
returns-in_err-rename-clause-later g c =
    let absent : Type 0 = IsNoMove (g.F.FileSystem.disk c.args.files.now) c.as_str.result.now c.as_str-2.result.now in
    let barred : Type 0 = IsIn c.as_str-2.result.now (g.F.FileSystem.disk c.args.files.now).directories in
    no_more_call absent ⊥ barred (g.F.FileSystem.is_bounded c.args.files.now) (g.F.FileSystem.is_bounded c.rename.new.self) (g.F.FileSystem.meter c.args.files.now) (g.F.FileSystem.meter c.rename.new.self) (Err c.in_err-rename.field-0.0) c.in_err-rename.ensures.cause c.in_err-rename.ensures.call c.in_err-rename.ensures.bound

pub returns-in_err-push-clause-later : goal.returns-in_err-push-clause-later
returns-in_err-push-clause-later g c =
    let absent : Type 0 = IsNoMove (g.F.FileSystem.disk c.args.files.now) c.as_str.result.now c.as_str-2.result.now in
    let barred : Type 0 = IsIn c.as_str-2.result.now (g.F.FileSystem.disk c.args.files.now).directories in
    no_more_call absent ⊥ barred (g.F.FileSystem.is_bounded c.args.files.now) (g.F.FileSystem.is_bounded c.rename.new.self) (g.F.FileSystem.meter c.args.files.now) (g.F.FileSystem.meter c.rename.new.self) (Ok c.in_ok-rename.field-0) c.in_ok-rename.ensures.cause c.in_ok-rename.ensures.call c.in_ok-rename.ensures.bound

pub returns-clause-later : goal.returns-clause-later
returns-clause-later g c =
    let absent : Type 0 = IsNoMove (g.F.FileSystem.disk c.args.files.now) c.as_str.result.now c.as_str-2.result.now in
    let barred : Type 0 = IsIn c.as_str-2.result.now (g.F.FileSystem.disk c.args.files.now).directories in
    no_more_call absent ⊥ barred (g.F.FileSystem.is_bounded c.args.files.now) (g.F.FileSystem.is_bounded c.rename.new.self) (g.F.FileSystem.meter c.args.files.now) (g.F.FileSystem.meter c.rename.new.self) (Ok c.in_ok-rename.field-0) c.in_ok-rename.ensures.cause c.in_ok-rename.ensures.call c.in_ok-rename.ensures.bound
