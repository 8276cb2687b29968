use Rattle.std.proofs.Common.{◌≡◌, ◌∷◌, ◌++◌, None, map, string_bytes, ap, sym, subst, ◌∙◌}
use Rattle.std.specs.Prelude.{Err}
use Rattle.raft_log_disk.specs.declared.fault.Fd.{Fd}
use Rattle.raft_log_disk.specs.Cause.{IsTaken}
use Rattle.raft_log_disk.specs.Disk.{fd_of}
use Rattle.raft_log_disk.proofs.RefusalLemmas.{taken_call}
use Rattle.raft_log_disk.specs.Text.{Text}
use Rattle.raft_log_files.specs.FileName.{log_file_name}
use Rattle.raft_log_pipe.specs.Pipe.{id_of}
use Rattle.raft_log_pipe.proofs.AloneLemmas.{mapped_at}
use Rattle.raft_log_pipe.proofs.CausedLemmas.{call_cause, exit_cause}
use Rattle.raft_log_recovery.specs.Caused.{IsRefusal}
use Rattle.raft_log_recovery.specs.Queue.{path_of}
use Rattle.raft_log_recovery.proofs.CausedLemmas.{refused_io}
use Rattle.std.proofs.Common.{refl}
use Rattle.raft_log_disk.proofs.RefusalLemmas.{no_more_same}
use Rattle.raft_log_pipe.proofs.EndLemmas.{not_given}
use Rattle.raft_log_recovery.proofs.queue.open_file.Goals as goal

pub returns-in_err-fd-clause-cause : goal.returns-in_err-fd-clause-cause
returns-in_err-fd-clause-cause g c =
    let d = g.F.FileSystem.disk c.args.files.now in
    let directories = map string_bytes c.args.directories.now in
    let path = path_of directories c.args.queue c.args.name in
    let free : Type 0 = g.F.FileSystem.is_bounded c.args.files.now in
    let a = g.F.FileSystem.meter c.args.files.now in
    let b = g.F.FileSystem.meter c.open.new.self in
    let refused : Type 0 = IsRefusal free ⊥ a b in
    let gone : Type 0 = fd_of d.names c.as_str-2.result.now ≡ None in
    let same : c.as_str-2.result.now ≡ path
    = c.as_str-2.ensures.value ∙ c.in_ok-path.ensures ∙ (λ i. c.as_str.ensures.value i ++ 47 ∷ log_file_name (record { queue = c.new-id.ensures.queue i; seq = c.new-id.ensures.seq i }))
    ∙ ap (λ (l : Text). l ++ 47 ∷ log_file_name (id_of c.args.queue c.args.name.seq)) (sym (mapped_at c.args.directories.now c.args.name.path_id c.index-directories-name.result c.requires.place c.index-directories-name.is)) in
    exit_cause Fd refused ⊥ ⊥ (fd_of d.names path ≡ None) c.from_residual-in_err-fd.result c.in_err-fd.field-0.0 c.from_residual-in_err-fd.ensures.1
    (subst (λ (t : Text). IsTaken {T = Fd} (fd_of d.names t ≡ None) refused (Err c.in_err-fd.field-0.0)) same
    (refused_io Fd gone free ⊥ a b c.in_err-fd.field-0.0 (call_cause Fd Fd gone ⊥ a b c.in_err-fd.field-0.0 c.in_err-fd.ensures.cause)
    (λ none. taken_call gone ⊥ ⊥ free a b (Err c.in_err-fd.field-0.0) (λ x. x) none c.in_err-fd.ensures.cause c.in_err-fd.ensures.call)))

pub returns-in_err-path-clause-ok : goal.returns-in_err-path-clause-ok
returns-in_err-path-clause-ok g c = not_given _ _ c.from_residual.result c.from_residual.ensures.1

pub returns-in_err-path-clause-kept : goal.returns-in_err-path-clause-kept
returns-in_err-path-clause-kept g c = refl

pub returns-in_err-path-clause-later : goal.returns-in_err-path-clause-later
returns-in_err-path-clause-later g c = no_more_same _ _

pub returns-in_err-fd-clause-ok : goal.returns-in_err-fd-clause-ok
returns-in_err-fd-clause-ok g c = not_given _ _ c.from_residual-in_err-fd.result c.from_residual-in_err-fd.ensures.1

pub returns-in_err-fd-clause-kept : goal.returns-in_err-fd-clause-kept
returns-in_err-fd-clause-kept g c = c.in_err-fd.ensures.kept

pub returns-clause-kept : goal.returns-clause-kept
returns-clause-kept g c = c.in_ok-fd.ensures.kept

pub returns-clause-corrupt : goal.returns-clause-corrupt
returns-clause-corrupt g c = λ f e. absurd cc

pub returns-clause-cause : goal.returns-clause-cause
returns-clause-cause g c = tt
