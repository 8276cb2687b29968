use Rattle.std.proofs.Common.{◌≡◌, ℕ, List, ◌∷◌, ◌++◌, inl, refl, sym, ap, subst, ◌∙◌, drop, false, None, Result, IsErrAnd}
use Rattle.std.specs.Prelude.{Ok, Err, IsErrOf}
use Rattle.raft_log_disk.specs.declared.fault.Fd.{Fd}
use Rattle.raft_log_disk.specs.Cause.{Rises}
use Rattle.raft_log_disk.specs.Disk.{Disk, IsIn, IsNoFile, IsNoMove, fd_of}
use Rattle.raft_log_disk.proofs.RefusalLemmas.{no_more_call, no_more_then, still_free, taken_call, no_more_same}
use Rattle.raft_log_files.specs.FileName.{log_file_name, reserved_name}
use Rattle.raft_log_file.specs.declared.writer.LogFileWriter.{LogFileWriter}
use Rattle.raft_log_pipe.specs.declared.file.File.{File}
use Rattle.raft_log_pipe.specs.declared.file.ReservedFile.{ReservedFile}
use Rattle.raft_log_pipe.specs.Alone.{directories_of_pipe}
use Rattle.raft_log_pipe.specs.Begun.{Changes, IsBegun}
use Rattle.raft_log_pipe.specs.Caused.{LacksPlace}
use Rattle.raft_log_pipe.specs.Next.{TakesFirst}
use Rattle.raft_log_pipe.specs.Pipe.{id_of}
use Rattle.raft_log_pipe.specs.Taken.{IsBarred, IsUnmade}
use Rattle.raft_log_pipe.proofs.AloneLemmas.{mapped_at}
use Rattle.raft_log_pipe.proofs.BehindLemmas.{exit_goes}
use Rattle.raft_log_pipe.proofs.CausedLemmas.{call_cause, rises_then}
use Rattle.raft_log_pipe.proofs.NextLemmas.{begun_changes}
use Rattle.raft_log_pipe.proofs.ReuseLemmas.{barred_by, can_move, first_reserved, first_within, header_logs, header_others, is_there, next_free, next_is, opened_is, perhaps_goes, perhaps_others, reserved_there, reused_goes, reused_left, reused_others, reused_takes, split_first}
use Rattle.raft_log_pipe.proofs.TakenLemmas.{exit_fault, still_taken}
use Rattle.std.proofs.lemmas.Result.{err_from_is_err_and}
use Rattle.raft_log_disk.specs.declared.fault.IoFault.{IoFault}
use Rattle.raft_log_disk.specs.declared.fault.IoFault.TheVariants.{Memory, NoSpace}
use Rattle.raft_log_pipe.proofs.EndLemmas.{for_memory, not_given, not_ok}
use Rattle.raft_log_pipe.proofs.pipe.SinglePipe.reuse_first.Goals as goal

pub returns-in-Err-clause-taken : goal.returns-in-Err-clause-taken
returns-in-Err-clause-taken g c =
    let met = g.met.F.FileSystem g.world.𝓛 g.world.𝓜 g.world.𝓡 ((λ s x. x), (λ x. x), (λ x. x), λ x. x) in
    let p = c.args.self.now in
    let d = g.F.FileSystem.disk c.args.files.now in
    let r = c.index-kept.result.now in
    let named = met.is_named c.args.files.now in
    let all = first_reserved p d r c.requires.pipe c.requires.some c.index-kept.ensures in
    let own = c.in_ok-from.ensures ∙ ap (λ (l : List ℕ). l ++ 47 ∷ reserved_name r.seq) (c.as_str-directory.ensures.value ∙ sym (mapped_at p.paths.items r.path_id c.index.result.now (first_within p d r all.0) c.index.ensures)) in
    let path = c.as_str.ensures.value ∙ own in
    let absent : Type 0 = fd_of d.names c.as_str.result.now ≡ None in
    λ unset.
    still_taken Fd (File × LogFileWriter) absent ⊥ (IsUnmade p d) (IsBarred p d) c.in-Err.fault (λ none. absurd (is_there p.queue (directories_of_pipe p) d r c.as_str.result.now named all.0 path none)) (λ x. absurd x)
    (taken_call absent ⊥ ⊥ (g.F.FileSystem.is_bounded c.args.files.now) (g.F.FileSystem.meter c.args.files.now) (g.F.FileSystem.meter c.open.new.self) (Err c.in-Err.fault) (λ x. x) unset c.in-Err.ensures.cause c.in-Err.ensures.call)

pub returns-in-Err-clause-cause : goal.returns-in-Err-clause-cause
returns-in-Err-clause-cause g c =
    let met = g.met.F.FileSystem g.world.𝓛 g.world.𝓜 g.world.𝓡 ((λ s x. x), (λ x. x), (λ x. x), λ x. x) in
    let p = c.args.self.now in
    let d = g.F.FileSystem.disk c.args.files.now in
    let r = c.index-kept.result.now in
    let named = met.is_named c.args.files.now in
    let all = first_reserved p d r c.requires.pipe c.requires.some c.index-kept.ensures in
    let own = c.in_ok-from.ensures ∙ ap (λ (l : List ℕ). l ++ 47 ∷ reserved_name r.seq) (c.as_str-directory.ensures.value ∙ sym (mapped_at p.paths.items r.path_id c.index.result.now (first_within p d r all.0) c.index.ensures)) in
    let path = c.as_str.ensures.value ∙ own in
    let absent : Type 0 = fd_of d.names c.as_str.result.now ≡ None in
    let a = g.F.FileSystem.meter c.args.files.now in
    let b = g.F.FileSystem.meter c.open.new.self in
    still_taken (Unit {0}) (File × LogFileWriter) absent (Rises 1 a b) (LacksPlace p d 1) (Rises 1 a b) c.in-Err.fault (λ none. absurd (is_there p.queue (directories_of_pipe p) d r c.as_str.result.now named all.0 path none)) (λ x. x)
    (call_cause _ (Unit {0}) absent ⊥ a b c.in-Err.fault c.in-Err.ensures.cause)

pub returns-in_err-writer-clause-goes : goal.returns-in_err-writer-clause-goes
returns-in_err-writer-clause-goes g c =
    let met = g.met.F.FileSystem g.world.𝓛 g.world.𝓜 g.world.𝓡 ((λ s x. x), (λ x. x), (λ x. x), λ x. x) in
    let p = c.args.self.now in
    let d = g.F.FileSystem.disk c.args.files.now in
    let r = c.index-kept.result.now in
    let named = met.is_named c.args.files.now in
    let all = first_reserved p d r c.requires.pipe c.requires.some c.index-kept.ensures in
    let own = c.in_ok-from.ensures ∙ ap (λ (l : List ℕ). l ++ 47 ∷ reserved_name r.seq) (c.as_str-directory.ensures.value ∙ sym (mapped_at p.paths.items r.path_id c.index.result.now (first_within p d r all.0) c.index.ensures)) in
    let path = c.as_str.ensures.value ∙ own in
    let o = g.F.FileSystem.disk c.open.new.self in
    let e = g.F.FileSystem.disk c.begin_file.new.files in
    let kept : o ≡ d = c.in-Ok.ensures.kept in
    let handle = opened_is p.queue (directories_of_pipe p) d r c.as_str.result.now c.in-Ok.handle.0 named all.0 path c.in-Ok.ensures.ok in
    let later = no_more_call (fd_of d.names c.as_str.result.now ≡ None) ⊥ ⊥ (g.F.FileSystem.is_bounded c.args.files.now) (g.F.FileSystem.is_bounded c.open.new.self) (g.F.FileSystem.meter c.args.files.now) (g.F.FileSystem.meter c.open.new.self) (Ok c.in-Ok.handle)
    c.in-Ok.ensures.cause c.in-Ok.ensures.call c.in-Ok.ensures.bound in
    let change : Changes d e all.0.fd = subst (Changes d e) handle (subst (λ (x : Disk). Changes x e c.in-Ok.handle.0) kept c.in_err-writer.ensures.begun.0) in
    exit_goes p d e c.from_residual-in_err-writer.result c.in_err-writer.field-0.0 c.from_residual-in_err-writer.ensures.1
    (inl (header_logs p.queue (directories_of_pipe p) d e r named all.0 change))

pub returns-in_err-writer-clause-others : goal.returns-in_err-writer-clause-others
returns-in_err-writer-clause-others g c =
    let met = g.met.F.FileSystem g.world.𝓛 g.world.𝓜 g.world.𝓡 ((λ s x. x), (λ x. x), (λ x. x), λ x. x) in
    let p = c.args.self.now in
    let d = g.F.FileSystem.disk c.args.files.now in
    let r = c.index-kept.result.now in
    let named = met.is_named c.args.files.now in
    let all = first_reserved p d r c.requires.pipe c.requires.some c.index-kept.ensures in
    let own = c.in_ok-from.ensures ∙ ap (λ (l : List ℕ). l ++ 47 ∷ reserved_name r.seq) (c.as_str-directory.ensures.value ∙ sym (mapped_at p.paths.items r.path_id c.index.result.now (first_within p d r all.0) c.index.ensures)) in
    let path = c.as_str.ensures.value ∙ own in
    let o = g.F.FileSystem.disk c.open.new.self in
    let e = g.F.FileSystem.disk c.begin_file.new.files in
    let kept : o ≡ d = c.in-Ok.ensures.kept in
    let handle = opened_is p.queue (directories_of_pipe p) d r c.as_str.result.now c.in-Ok.handle.0 named all.0 path c.in-Ok.ensures.ok in
    let later = no_more_call (fd_of d.names c.as_str.result.now ≡ None) ⊥ ⊥ (g.F.FileSystem.is_bounded c.args.files.now) (g.F.FileSystem.is_bounded c.open.new.self) (g.F.FileSystem.meter c.args.files.now) (g.F.FileSystem.meter c.open.new.self) (Ok c.in-Ok.handle)
    c.in-Ok.ensures.cause c.in-Ok.ensures.call c.in-Ok.ensures.bound in
    let change : Changes d e all.0.fd = subst (Changes d e) handle (subst (λ (x : Disk). Changes x e c.in-Ok.handle.0) kept c.in_err-writer.ensures.begun.0) in
    header_others p.queue (directories_of_pipe p) d e r named all.0 change

pub returns-in_err-writer-clause-taken : goal.returns-in_err-writer-clause-taken
returns-in_err-writer-clause-taken g c =
    let met = g.met.F.FileSystem g.world.𝓛 g.world.𝓜 g.world.𝓡 ((λ s x. x), (λ x. x), (λ x. x), λ x. x) in
    let p = c.args.self.now in
    let d = g.F.FileSystem.disk c.args.files.now in
    let r = c.index-kept.result.now in
    let named = met.is_named c.args.files.now in
    let all = first_reserved p d r c.requires.pipe c.requires.some c.index-kept.ensures in
    let own = c.in_ok-from.ensures ∙ ap (λ (l : List ℕ). l ++ 47 ∷ reserved_name r.seq) (c.as_str-directory.ensures.value ∙ sym (mapped_at p.paths.items r.path_id c.index.result.now (first_within p d r all.0) c.index.ensures)) in
    let path = c.as_str.ensures.value ∙ own in
    let o = g.F.FileSystem.disk c.open.new.self in
    let e = g.F.FileSystem.disk c.begin_file.new.files in
    let kept : o ≡ d = c.in-Ok.ensures.kept in
    let handle = opened_is p.queue (directories_of_pipe p) d r c.as_str.result.now c.in-Ok.handle.0 named all.0 path c.in-Ok.ensures.ok in
    let later = no_more_call (fd_of d.names c.as_str.result.now ≡ None) ⊥ ⊥ (g.F.FileSystem.is_bounded c.args.files.now) (g.F.FileSystem.is_bounded c.open.new.self) (g.F.FileSystem.meter c.args.files.now) (g.F.FileSystem.meter c.open.new.self) (Ok c.in-Ok.handle)
    c.in-Ok.ensures.cause c.in-Ok.ensures.call c.in-Ok.ensures.bound in
    let change : Changes d e all.0.fd = subst (Changes d e) handle (subst (λ (x : Disk). Changes x e c.in-Ok.handle.0) kept c.in_err-writer.ensures.begun.0) in
    λ unset.
    exit_fault LogFileWriter (File × LogFileWriter) (IsNoFile o c.in-Ok.handle.0) ⊥ (IsUnmade p d) (IsBarred p d) c.from_residual-in_err-writer.result c.in_err-writer.field-0.0 c.from_residual-in_err-writer.ensures.1
    (λ none. absurd (reserved_there p.queue (directories_of_pipe p) d r all.0 (subst (IsNoFile d) handle (subst (λ (x : Disk). IsNoFile x c.in-Ok.handle.0) kept none)))) (λ x. absurd x) (c.in_err-writer.ensures.taken (still_free unset later))

pub returns-in_err-writer-clause-cause : goal.returns-in_err-writer-clause-cause
returns-in_err-writer-clause-cause g c =
    let met = g.met.F.FileSystem g.world.𝓛 g.world.𝓜 g.world.𝓡 ((λ s x. x), (λ x. x), (λ x. x), λ x. x) in
    let p = c.args.self.now in
    let d = g.F.FileSystem.disk c.args.files.now in
    let r = c.index-kept.result.now in
    let named = met.is_named c.args.files.now in
    let all = first_reserved p d r c.requires.pipe c.requires.some c.index-kept.ensures in
    let own = c.in_ok-from.ensures ∙ ap (λ (l : List ℕ). l ++ 47 ∷ reserved_name r.seq) (c.as_str-directory.ensures.value ∙ sym (mapped_at p.paths.items r.path_id c.index.result.now (first_within p d r all.0) c.index.ensures)) in
    let path = c.as_str.ensures.value ∙ own in
    let o = g.F.FileSystem.disk c.open.new.self in
    let e = g.F.FileSystem.disk c.begin_file.new.files in
    let kept : o ≡ d = c.in-Ok.ensures.kept in
    let handle = opened_is p.queue (directories_of_pipe p) d r c.as_str.result.now c.in-Ok.handle.0 named all.0 path c.in-Ok.ensures.ok in
    let later = no_more_call (fd_of d.names c.as_str.result.now ≡ None) ⊥ ⊥ (g.F.FileSystem.is_bounded c.args.files.now) (g.F.FileSystem.is_bounded c.open.new.self) (g.F.FileSystem.meter c.args.files.now) (g.F.FileSystem.meter c.open.new.self) (Ok c.in-Ok.handle)
    c.in-Ok.ensures.cause c.in-Ok.ensures.call c.in-Ok.ensures.bound in
    let change : Changes d e all.0.fd = subst (Changes d e) handle (subst (λ (x : Disk). Changes x e c.in-Ok.handle.0) kept c.in_err-writer.ensures.begun.0) in
    let a = g.F.FileSystem.meter c.args.files.now in
    let b = g.F.FileSystem.meter c.open.new.self in
    let z = g.F.FileSystem.meter c.begin_file.new.files in
    exit_fault LogFileWriter (File × LogFileWriter) (IsNoFile o c.in-Ok.handle.0) (Rises 1 b z) (LacksPlace p d 1) (Rises 1 a z) c.from_residual-in_err-writer.result c.in_err-writer.field-0.0 c.from_residual-in_err-writer.ensures.1
    (λ none. absurd (reserved_there p.queue (directories_of_pipe p) d r all.0 (subst (IsNoFile d) handle (subst (λ (x : Disk). IsNoFile x c.in-Ok.handle.0) kept none)))) (rises_then 0 1 a b z later.counts) c.in_err-writer.ensures.cause

pub reuse-requires : goal.reuse-requires
reuse-requires g c =
    let met = g.met.F.FileSystem g.world.𝓛 g.world.𝓜 g.world.𝓡 ((λ s x. x), (λ x. x), (λ x. x), λ x. x) in
    let p = c.args.self.now in
    let d = g.F.FileSystem.disk c.args.files.now in
    let r = c.index-kept.result.now in
    let named = met.is_named c.args.files.now in
    let all = first_reserved p d r c.requires.pipe c.requires.some c.index-kept.ensures in
    let own = c.in_ok-from.ensures ∙ ap (λ (l : List ℕ). l ++ 47 ∷ reserved_name r.seq) (c.as_str-directory.ensures.value ∙ sym (mapped_at p.paths.items r.path_id c.index.result.now (first_within p d r all.0) c.index.ensures)) in
    let path = c.as_str.ensures.value ∙ own in
    let o = g.F.FileSystem.disk c.open.new.self in
    let e = g.F.FileSystem.disk c.begin_file.new.files in
    let kept : o ≡ d = c.in-Ok.ensures.kept in
    let handle = opened_is p.queue (directories_of_pipe p) d r c.as_str.result.now c.in-Ok.handle.0 named all.0 path c.in-Ok.ensures.ok in
    let later = no_more_call (fd_of d.names c.as_str.result.now ≡ None) ⊥ ⊥ (g.F.FileSystem.is_bounded c.args.files.now) (g.F.FileSystem.is_bounded c.open.new.self) (g.F.FileSystem.meter c.args.files.now) (g.F.FileSystem.meter c.open.new.self) (Ok c.in-Ok.handle)
    c.in-Ok.ensures.cause c.in-Ok.ensures.call c.in-Ok.ensures.bound in
    let f : File = record { seq = c.new-id.result.seq; handle = c.in-Ok.handle; format = p.default_format; path_id = r.path_id; reserved = false } in
    let begun : IsBegun d e f (Ok c.in_ok-writer.writer) = subst (λ (x : Disk). IsBegun x e f (Ok c.in_ok-writer.writer)) kept c.in_ok-writer.ensures.begun in
    let change : Changes d e all.0.fd = subst (Changes d e) handle (begun_changes d e f c.in_ok-writer.writer begun) in
    let says = c.as_str-3.ensures.value ∙ c.in_ok-to.ensures ∙ (λ i. c.as_str-directory.ensures.value i ++ 47 ∷ log_file_name (id_of (c.new-id.ensures.queue i) (c.new-id.ensures.seq i))) in
    let free = next_free p d r.path_id c.index.result.now c.as_str-3.result.now c.requires.pipe c.requires.number (first_within p d r all.0) c.index.ensures says in
    ap (λ (y : Disk). fd_of y.names c.as_str-3.result.now) change ∙ free

pub returns-in-Ok-reuse-clause-goes : goal.returns-in-Ok-reuse-clause-goes
returns-in-Ok-reuse-clause-goes g c =
    let met = g.met.F.FileSystem g.world.𝓛 g.world.𝓜 g.world.𝓡 ((λ s x. x), (λ x. x), (λ x. x), λ x. x) in
    let p = c.args.self.now in
    let d = g.F.FileSystem.disk c.args.files.now in
    let r = c.index-kept.result.now in
    let named = met.is_named c.args.files.now in
    let all = first_reserved p d r c.requires.pipe c.requires.some c.index-kept.ensures in
    let own = c.in_ok-from.ensures ∙ ap (λ (l : List ℕ). l ++ 47 ∷ reserved_name r.seq) (c.as_str-directory.ensures.value ∙ sym (mapped_at p.paths.items r.path_id c.index.result.now (first_within p d r all.0) c.index.ensures)) in
    let path = c.as_str.ensures.value ∙ own in
    let o = g.F.FileSystem.disk c.open.new.self in
    let e = g.F.FileSystem.disk c.begin_file.new.files in
    let kept : o ≡ d = c.in-Ok.ensures.kept in
    let handle = opened_is p.queue (directories_of_pipe p) d r c.as_str.result.now c.in-Ok.handle.0 named all.0 path c.in-Ok.ensures.ok in
    let later = no_more_call (fd_of d.names c.as_str.result.now ≡ None) ⊥ ⊥ (g.F.FileSystem.is_bounded c.args.files.now) (g.F.FileSystem.is_bounded c.open.new.self) (g.F.FileSystem.meter c.args.files.now) (g.F.FileSystem.meter c.open.new.self) (Ok c.in-Ok.handle)
    c.in-Ok.ensures.cause c.in-Ok.ensures.call c.in-Ok.ensures.bound in
    let f : File = record { seq = c.new-id.result.seq; handle = c.in-Ok.handle; format = p.default_format; path_id = r.path_id; reserved = false } in
    let begun : IsBegun d e f (Ok c.in_ok-writer.writer) = subst (λ (x : Disk). IsBegun x e f (Ok c.in_ok-writer.writer)) kept c.in_ok-writer.ensures.begun in
    let change : Changes d e all.0.fd = subst (Changes d e) handle (begun_changes d e f c.in_ok-writer.writer begun) in
    let says = c.as_str-3.ensures.value ∙ c.in_ok-to.ensures ∙ (λ i. c.as_str-directory.ensures.value i ++ 47 ∷ log_file_name (id_of (c.new-id.ensures.queue i) (c.new-id.ensures.seq i))) in
    let free = next_free p d r.path_id c.index.result.now c.as_str-3.result.now c.requires.pipe c.requires.number (first_within p d r all.0) c.index.ensures says in
    let y = g.F.FileSystem.disk c.reuse.new.self in
    let from = c.as_str-2.ensures.value ∙ own in
    let to = next_is p r.path_id c.index.result.now c.as_str-3.result.now (first_within p d r all.0) c.index.ensures says in
    reused_goes p d e y r (drop 1 p.reserved.items) c.as_str-2.result.now c.as_str-3.result.now named (met.is_named c.begin_file.new.files) (met.is_named c.reuse.new.self) c.requires.number all change from to free c.in-Ok-reuse.ensures.ok f c.in_ok-writer.writer c.new-id.ensures.seq refl handle c.requires.pipe.plain begun

pub returns-in-Ok-reuse-clause-left : goal.returns-in-Ok-reuse-clause-left
returns-in-Ok-reuse-clause-left g c =
    let met = g.met.F.FileSystem g.world.𝓛 g.world.𝓜 g.world.𝓡 ((λ s x. x), (λ x. x), (λ x. x), λ x. x) in
    let p = c.args.self.now in
    let d = g.F.FileSystem.disk c.args.files.now in
    let r = c.index-kept.result.now in
    let named = met.is_named c.args.files.now in
    let all = first_reserved p d r c.requires.pipe c.requires.some c.index-kept.ensures in
    let own = c.in_ok-from.ensures ∙ ap (λ (l : List ℕ). l ++ 47 ∷ reserved_name r.seq) (c.as_str-directory.ensures.value ∙ sym (mapped_at p.paths.items r.path_id c.index.result.now (first_within p d r all.0) c.index.ensures)) in
    let path = c.as_str.ensures.value ∙ own in
    let o = g.F.FileSystem.disk c.open.new.self in
    let e = g.F.FileSystem.disk c.begin_file.new.files in
    let kept : o ≡ d = c.in-Ok.ensures.kept in
    let handle = opened_is p.queue (directories_of_pipe p) d r c.as_str.result.now c.in-Ok.handle.0 named all.0 path c.in-Ok.ensures.ok in
    let later = no_more_call (fd_of d.names c.as_str.result.now ≡ None) ⊥ ⊥ (g.F.FileSystem.is_bounded c.args.files.now) (g.F.FileSystem.is_bounded c.open.new.self) (g.F.FileSystem.meter c.args.files.now) (g.F.FileSystem.meter c.open.new.self) (Ok c.in-Ok.handle)
    c.in-Ok.ensures.cause c.in-Ok.ensures.call c.in-Ok.ensures.bound in
    let f : File = record { seq = c.new-id.result.seq; handle = c.in-Ok.handle; format = p.default_format; path_id = r.path_id; reserved = false } in
    let begun : IsBegun d e f (Ok c.in_ok-writer.writer) = subst (λ (x : Disk). IsBegun x e f (Ok c.in_ok-writer.writer)) kept c.in_ok-writer.ensures.begun in
    let change : Changes d e all.0.fd = subst (Changes d e) handle (begun_changes d e f c.in_ok-writer.writer begun) in
    let says = c.as_str-3.ensures.value ∙ c.in_ok-to.ensures ∙ (λ i. c.as_str-directory.ensures.value i ++ 47 ∷ log_file_name (id_of (c.new-id.ensures.queue i) (c.new-id.ensures.seq i))) in
    let free = next_free p d r.path_id c.index.result.now c.as_str-3.result.now c.requires.pipe c.requires.number (first_within p d r all.0) c.index.ensures says in
    let y = g.F.FileSystem.disk c.reuse.new.self in
    let from = c.as_str-2.ensures.value ∙ own in
    let to = next_is p r.path_id c.index.result.now c.as_str-3.result.now (first_within p d r all.0) c.index.ensures says in
    reused_left p d e y r (drop 1 p.reserved.items) c.as_str-2.result.now c.as_str-3.result.now named (met.is_named c.begin_file.new.files) (met.is_named c.reuse.new.self) c.requires.number all change from to free c.in-Ok-reuse.ensures.ok

pub returns-in-Ok-reuse-clause-takes : goal.returns-in-Ok-reuse-clause-takes
returns-in-Ok-reuse-clause-takes g c =
    let met = g.met.F.FileSystem g.world.𝓛 g.world.𝓜 g.world.𝓡 ((λ s x. x), (λ x. x), (λ x. x), λ x. x) in
    let p = c.args.self.now in
    let d = g.F.FileSystem.disk c.args.files.now in
    let r = c.index-kept.result.now in
    let named = met.is_named c.args.files.now in
    let all = first_reserved p d r c.requires.pipe c.requires.some c.index-kept.ensures in
    let own = c.in_ok-from.ensures ∙ ap (λ (l : List ℕ). l ++ 47 ∷ reserved_name r.seq) (c.as_str-directory.ensures.value ∙ sym (mapped_at p.paths.items r.path_id c.index.result.now (first_within p d r all.0) c.index.ensures)) in
    let path = c.as_str.ensures.value ∙ own in
    let o = g.F.FileSystem.disk c.open.new.self in
    let e = g.F.FileSystem.disk c.begin_file.new.files in
    let kept : o ≡ d = c.in-Ok.ensures.kept in
    let handle = opened_is p.queue (directories_of_pipe p) d r c.as_str.result.now c.in-Ok.handle.0 named all.0 path c.in-Ok.ensures.ok in
    let later = no_more_call (fd_of d.names c.as_str.result.now ≡ None) ⊥ ⊥ (g.F.FileSystem.is_bounded c.args.files.now) (g.F.FileSystem.is_bounded c.open.new.self) (g.F.FileSystem.meter c.args.files.now) (g.F.FileSystem.meter c.open.new.self) (Ok c.in-Ok.handle)
    c.in-Ok.ensures.cause c.in-Ok.ensures.call c.in-Ok.ensures.bound in
    let f : File = record { seq = c.new-id.result.seq; handle = c.in-Ok.handle; format = p.default_format; path_id = r.path_id; reserved = false } in
    let begun : IsBegun d e f (Ok c.in_ok-writer.writer) = subst (λ (x : Disk). IsBegun x e f (Ok c.in_ok-writer.writer)) kept c.in_ok-writer.ensures.begun in
    let change : Changes d e all.0.fd = subst (Changes d e) handle (begun_changes d e f c.in_ok-writer.writer begun) in
    let says = c.as_str-3.ensures.value ∙ c.in_ok-to.ensures ∙ (λ i. c.as_str-directory.ensures.value i ++ 47 ∷ log_file_name (id_of (c.new-id.ensures.queue i) (c.new-id.ensures.seq i))) in
    let free = next_free p d r.path_id c.index.result.now c.as_str-3.result.now c.requires.pipe c.requires.number (first_within p d r all.0) c.index.ensures says in
    let y = g.F.FileSystem.disk c.reuse.new.self in
    let from = c.as_str-2.ensures.value ∙ own in
    let to = next_is p r.path_id c.index.result.now c.as_str-3.result.now (first_within p d r all.0) c.index.ensures says in
    subst (λ (l : List ReservedFile). TakesFirst l p d (drop 1 p.reserved.items) f y) (sym (split_first p.reserved.items r c.requires.some c.index-kept.ensures))
    (reused_takes p d e y r (drop 1 p.reserved.items) c.as_str-2.result.now c.as_str-3.result.now named (met.is_named c.begin_file.new.files) (met.is_named c.reuse.new.self) c.requires.number all change from to free c.in-Ok-reuse.ensures.ok f handle)

pub returns-in-Ok-reuse-clause-others : goal.returns-in-Ok-reuse-clause-others
returns-in-Ok-reuse-clause-others g c =
    let met = g.met.F.FileSystem g.world.𝓛 g.world.𝓜 g.world.𝓡 ((λ s x. x), (λ x. x), (λ x. x), λ x. x) in
    let p = c.args.self.now in
    let d = g.F.FileSystem.disk c.args.files.now in
    let r = c.index-kept.result.now in
    let named = met.is_named c.args.files.now in
    let all = first_reserved p d r c.requires.pipe c.requires.some c.index-kept.ensures in
    let own = c.in_ok-from.ensures ∙ ap (λ (l : List ℕ). l ++ 47 ∷ reserved_name r.seq) (c.as_str-directory.ensures.value ∙ sym (mapped_at p.paths.items r.path_id c.index.result.now (first_within p d r all.0) c.index.ensures)) in
    let path = c.as_str.ensures.value ∙ own in
    let o = g.F.FileSystem.disk c.open.new.self in
    let e = g.F.FileSystem.disk c.begin_file.new.files in
    let kept : o ≡ d = c.in-Ok.ensures.kept in
    let handle = opened_is p.queue (directories_of_pipe p) d r c.as_str.result.now c.in-Ok.handle.0 named all.0 path c.in-Ok.ensures.ok in
    let later = no_more_call (fd_of d.names c.as_str.result.now ≡ None) ⊥ ⊥ (g.F.FileSystem.is_bounded c.args.files.now) (g.F.FileSystem.is_bounded c.open.new.self) (g.F.FileSystem.meter c.args.files.now) (g.F.FileSystem.meter c.open.new.self) (Ok c.in-Ok.handle)
    c.in-Ok.ensures.cause c.in-Ok.ensures.call c.in-Ok.ensures.bound in
    let f : File = record { seq = c.new-id.result.seq; handle = c.in-Ok.handle; format = p.default_format; path_id = r.path_id; reserved = false } in
    let begun : IsBegun d e f (Ok c.in_ok-writer.writer) = subst (λ (x : Disk). IsBegun x e f (Ok c.in_ok-writer.writer)) kept c.in_ok-writer.ensures.begun in
    let change : Changes d e all.0.fd = subst (Changes d e) handle (begun_changes d e f c.in_ok-writer.writer begun) in
    let says = c.as_str-3.ensures.value ∙ c.in_ok-to.ensures ∙ (λ i. c.as_str-directory.ensures.value i ++ 47 ∷ log_file_name (id_of (c.new-id.ensures.queue i) (c.new-id.ensures.seq i))) in
    let free = next_free p d r.path_id c.index.result.now c.as_str-3.result.now c.requires.pipe c.requires.number (first_within p d r all.0) c.index.ensures says in
    let y = g.F.FileSystem.disk c.reuse.new.self in
    let from = c.as_str-2.ensures.value ∙ own in
    let to = next_is p r.path_id c.index.result.now c.as_str-3.result.now (first_within p d r all.0) c.index.ensures says in
    reused_others p d e y r (drop 1 p.reserved.items) c.as_str-2.result.now c.as_str-3.result.now named (met.is_named c.begin_file.new.files) (met.is_named c.reuse.new.self) c.requires.number all change from to free c.in-Ok-reuse.ensures.ok

pub returns-clause-goes : goal.returns-clause-goes
returns-clause-goes g c =
    let met = g.met.F.FileSystem g.world.𝓛 g.world.𝓜 g.world.𝓡 ((λ s x. x), (λ x. x), (λ x. x), λ x. x) in
    let p = c.args.self.now in
    let d = g.F.FileSystem.disk c.args.files.now in
    let r = c.index-kept.result.now in
    let named = met.is_named c.args.files.now in
    let all = first_reserved p d r c.requires.pipe c.requires.some c.index-kept.ensures in
    let own = c.in_ok-from.ensures ∙ ap (λ (l : List ℕ). l ++ 47 ∷ reserved_name r.seq) (c.as_str-directory.ensures.value ∙ sym (mapped_at p.paths.items r.path_id c.index.result.now (first_within p d r all.0) c.index.ensures)) in
    let path = c.as_str.ensures.value ∙ own in
    let o = g.F.FileSystem.disk c.open.new.self in
    let e = g.F.FileSystem.disk c.begin_file.new.files in
    let kept : o ≡ d = c.in-Ok.ensures.kept in
    let handle = opened_is p.queue (directories_of_pipe p) d r c.as_str.result.now c.in-Ok.handle.0 named all.0 path c.in-Ok.ensures.ok in
    let later = no_more_call (fd_of d.names c.as_str.result.now ≡ None) ⊥ ⊥ (g.F.FileSystem.is_bounded c.args.files.now) (g.F.FileSystem.is_bounded c.open.new.self) (g.F.FileSystem.meter c.args.files.now) (g.F.FileSystem.meter c.open.new.self) (Ok c.in-Ok.handle)
    c.in-Ok.ensures.cause c.in-Ok.ensures.call c.in-Ok.ensures.bound in
    let f : File = record { seq = c.new-id.result.seq; handle = c.in-Ok.handle; format = p.default_format; path_id = r.path_id; reserved = false } in
    let begun : IsBegun d e f (Ok c.in_ok-writer.writer) = subst (λ (x : Disk). IsBegun x e f (Ok c.in_ok-writer.writer)) kept c.in_ok-writer.ensures.begun in
    let change : Changes d e all.0.fd = subst (Changes d e) handle (begun_changes d e f c.in_ok-writer.writer begun) in
    let says = c.as_str-3.ensures.value ∙ c.in_ok-to.ensures ∙ (λ i. c.as_str-directory.ensures.value i ++ 47 ∷ log_file_name (id_of (c.new-id.ensures.queue i) (c.new-id.ensures.seq i))) in
    let free = next_free p d r.path_id c.index.result.now c.as_str-3.result.now c.requires.pipe c.requires.number (first_within p d r all.0) c.index.ensures says in
    let y = g.F.FileSystem.disk c.reuse.new.self in
    let from = c.as_str-2.ensures.value ∙ own in
    let to = next_is p r.path_id c.index.result.now c.as_str-3.result.now (first_within p d r all.0) c.index.ensures says in
    perhaps_goes p d e y r (drop 1 p.reserved.items) c.as_str-2.result.now c.as_str-3.result.now named (met.is_named c.begin_file.new.files) (met.is_named c.reuse.new.self) c.requires.number all change from to free f c.in_ok-writer.writer c.in-Err-reuse.fault c.new-id.ensures.seq refl handle c.requires.pipe.plain begun c.in-Err-reuse.ensures.err

pub returns-clause-others : goal.returns-clause-others
returns-clause-others g c =
    let met = g.met.F.FileSystem g.world.𝓛 g.world.𝓜 g.world.𝓡 ((λ s x. x), (λ x. x), (λ x. x), λ x. x) in
    let p = c.args.self.now in
    let d = g.F.FileSystem.disk c.args.files.now in
    let r = c.index-kept.result.now in
    let named = met.is_named c.args.files.now in
    let all = first_reserved p d r c.requires.pipe c.requires.some c.index-kept.ensures in
    let own = c.in_ok-from.ensures ∙ ap (λ (l : List ℕ). l ++ 47 ∷ reserved_name r.seq) (c.as_str-directory.ensures.value ∙ sym (mapped_at p.paths.items r.path_id c.index.result.now (first_within p d r all.0) c.index.ensures)) in
    let path = c.as_str.ensures.value ∙ own in
    let o = g.F.FileSystem.disk c.open.new.self in
    let e = g.F.FileSystem.disk c.begin_file.new.files in
    let kept : o ≡ d = c.in-Ok.ensures.kept in
    let handle = opened_is p.queue (directories_of_pipe p) d r c.as_str.result.now c.in-Ok.handle.0 named all.0 path c.in-Ok.ensures.ok in
    let later = no_more_call (fd_of d.names c.as_str.result.now ≡ None) ⊥ ⊥ (g.F.FileSystem.is_bounded c.args.files.now) (g.F.FileSystem.is_bounded c.open.new.self) (g.F.FileSystem.meter c.args.files.now) (g.F.FileSystem.meter c.open.new.self) (Ok c.in-Ok.handle)
    c.in-Ok.ensures.cause c.in-Ok.ensures.call c.in-Ok.ensures.bound in
    let f : File = record { seq = c.new-id.result.seq; handle = c.in-Ok.handle; format = p.default_format; path_id = r.path_id; reserved = false } in
    let begun : IsBegun d e f (Ok c.in_ok-writer.writer) = subst (λ (x : Disk). IsBegun x e f (Ok c.in_ok-writer.writer)) kept c.in_ok-writer.ensures.begun in
    let change : Changes d e all.0.fd = subst (Changes d e) handle (begun_changes d e f c.in_ok-writer.writer begun) in
    let says = c.as_str-3.ensures.value ∙ c.in_ok-to.ensures ∙ (λ i. c.as_str-directory.ensures.value i ++ 47 ∷ log_file_name (id_of (c.new-id.ensures.queue i) (c.new-id.ensures.seq i))) in
    let free = next_free p d r.path_id c.index.result.now c.as_str-3.result.now c.requires.pipe c.requires.number (first_within p d r all.0) c.index.ensures says in
    let y = g.F.FileSystem.disk c.reuse.new.self in
    let from = c.as_str-2.ensures.value ∙ own in
    let to = next_is p r.path_id c.index.result.now c.as_str-3.result.now (first_within p d r all.0) c.index.ensures says in
    perhaps_others p d e y r (drop 1 p.reserved.items) c.as_str-2.result.now c.as_str-3.result.now named (met.is_named c.begin_file.new.files) (met.is_named c.reuse.new.self) c.requires.number all change from to free c.in-Err-reuse.ensures.err

pub returns-clause-taken : goal.returns-clause-taken
returns-clause-taken g c =
    let met = g.met.F.FileSystem g.world.𝓛 g.world.𝓜 g.world.𝓡 ((λ s x. x), (λ x. x), (λ x. x), λ x. x) in
    let p = c.args.self.now in
    let d = g.F.FileSystem.disk c.args.files.now in
    let r = c.index-kept.result.now in
    let named = met.is_named c.args.files.now in
    let all = first_reserved p d r c.requires.pipe c.requires.some c.index-kept.ensures in
    let own = c.in_ok-from.ensures ∙ ap (λ (l : List ℕ). l ++ 47 ∷ reserved_name r.seq) (c.as_str-directory.ensures.value ∙ sym (mapped_at p.paths.items r.path_id c.index.result.now (first_within p d r all.0) c.index.ensures)) in
    let path = c.as_str.ensures.value ∙ own in
    let o = g.F.FileSystem.disk c.open.new.self in
    let e = g.F.FileSystem.disk c.begin_file.new.files in
    let kept : o ≡ d = c.in-Ok.ensures.kept in
    let handle = opened_is p.queue (directories_of_pipe p) d r c.as_str.result.now c.in-Ok.handle.0 named all.0 path c.in-Ok.ensures.ok in
    let later = no_more_call (fd_of d.names c.as_str.result.now ≡ None) ⊥ ⊥ (g.F.FileSystem.is_bounded c.args.files.now) (g.F.FileSystem.is_bounded c.open.new.self) (g.F.FileSystem.meter c.args.files.now) (g.F.FileSystem.meter c.open.new.self) (Ok c.in-Ok.handle)
    c.in-Ok.ensures.cause c.in-Ok.ensures.call c.in-Ok.ensures.bound in
    let f : File = record { seq = c.new-id.result.seq; handle = c.in-Ok.handle; format = p.default_format; path_id = r.path_id; reserved = false } in
    let begun : IsBegun d e f (Ok c.in_ok-writer.writer) = subst (λ (x : Disk). IsBegun x e f (Ok c.in_ok-writer.writer)) kept c.in_ok-writer.ensures.begun in
    let change : Changes d e all.0.fd = subst (Changes d e) handle (begun_changes d e f c.in_ok-writer.writer begun) in
    let says = c.as_str-3.ensures.value ∙ c.in_ok-to.ensures ∙ (λ i. c.as_str-directory.ensures.value i ++ 47 ∷ log_file_name (id_of (c.new-id.ensures.queue i) (c.new-id.ensures.seq i))) in
    let free = next_free p d r.path_id c.index.result.now c.as_str-3.result.now c.requires.pipe c.requires.number (first_within p d r all.0) c.index.ensures says in
    let y = g.F.FileSystem.disk c.reuse.new.self in
    let from = c.as_str-2.ensures.value ∙ own in
    let to = next_is p r.path_id c.index.result.now c.as_str-3.result.now (first_within p d r all.0) c.index.ensures says in
    let absent : Type 0 = IsNoMove e c.as_str-2.result.now c.as_str-3.result.now in
    let barred : Type 0 = IsIn c.as_str-3.result.now e.directories in
    λ unset.
    still_taken (Unit {0}) (File × LogFileWriter) absent barred (IsUnmade p d) (IsBarred p d) c.in-Err-reuse.fault
    (λ none. absurd (can_move p d e r c.as_str-2.result.now c.as_str-3.result.now named all.0 change c.requires.number from to none))
    (barred_by p d e r (drop 1 p.reserved.items) c.as_str-3.result.now (split_first p.reserved.items r c.requires.some c.index-kept.ensures) (ap (λ (z : Disk). z.directories) change) to)
    (taken_call absent ⊥ barred (g.F.FileSystem.is_bounded c.begin_file.new.files) (g.F.FileSystem.meter c.begin_file.new.files) (g.F.FileSystem.meter c.reuse.new.self) (Err c.in-Err-reuse.fault) (λ x. absurd x)
    (still_free unset (no_more_then later c.in_ok-writer.ensures.later)) c.in-Err-reuse.ensures.cause c.in-Err-reuse.ensures.call)

pub returns-clause-cause : goal.returns-clause-cause
returns-clause-cause g c =
    let met = g.met.F.FileSystem g.world.𝓛 g.world.𝓜 g.world.𝓡 ((λ s x. x), (λ x. x), (λ x. x), λ x. x) in
    let p = c.args.self.now in
    let d = g.F.FileSystem.disk c.args.files.now in
    let r = c.index-kept.result.now in
    let named = met.is_named c.args.files.now in
    let all = first_reserved p d r c.requires.pipe c.requires.some c.index-kept.ensures in
    let own = c.in_ok-from.ensures ∙ ap (λ (l : List ℕ). l ++ 47 ∷ reserved_name r.seq) (c.as_str-directory.ensures.value ∙ sym (mapped_at p.paths.items r.path_id c.index.result.now (first_within p d r all.0) c.index.ensures)) in
    let path = c.as_str.ensures.value ∙ own in
    let o = g.F.FileSystem.disk c.open.new.self in
    let e = g.F.FileSystem.disk c.begin_file.new.files in
    let kept : o ≡ d = c.in-Ok.ensures.kept in
    let handle = opened_is p.queue (directories_of_pipe p) d r c.as_str.result.now c.in-Ok.handle.0 named all.0 path c.in-Ok.ensures.ok in
    let later = no_more_call (fd_of d.names c.as_str.result.now ≡ None) ⊥ ⊥ (g.F.FileSystem.is_bounded c.args.files.now) (g.F.FileSystem.is_bounded c.open.new.self) (g.F.FileSystem.meter c.args.files.now) (g.F.FileSystem.meter c.open.new.self) (Ok c.in-Ok.handle)
    c.in-Ok.ensures.cause c.in-Ok.ensures.call c.in-Ok.ensures.bound in
    let f : File = record { seq = c.new-id.result.seq; handle = c.in-Ok.handle; format = p.default_format; path_id = r.path_id; reserved = false } in
    let begun : IsBegun d e f (Ok c.in_ok-writer.writer) = subst (λ (x : Disk). IsBegun x e f (Ok c.in_ok-writer.writer)) kept c.in_ok-writer.ensures.begun in
    let change : Changes d e all.0.fd = subst (Changes d e) handle (begun_changes d e f c.in_ok-writer.writer begun) in
    let says = c.as_str-3.ensures.value ∙ c.in_ok-to.ensures ∙ (λ i. c.as_str-directory.ensures.value i ++ 47 ∷ log_file_name (id_of (c.new-id.ensures.queue i) (c.new-id.ensures.seq i))) in
    let free = next_free p d r.path_id c.index.result.now c.as_str-3.result.now c.requires.pipe c.requires.number (first_within p d r all.0) c.index.ensures says in
    let y = g.F.FileSystem.disk c.reuse.new.self in
    let from = c.as_str-2.ensures.value ∙ own in
    let to = next_is p r.path_id c.index.result.now c.as_str-3.result.now (first_within p d r all.0) c.index.ensures says in
    let absent : Type 0 = IsNoMove e c.as_str-2.result.now c.as_str-3.result.now in
    let a = g.F.FileSystem.meter c.args.files.now in
    let b = g.F.FileSystem.meter c.begin_file.new.files in
    let z = g.F.FileSystem.meter c.reuse.new.self in
    still_taken (Unit {0}) (File × LogFileWriter) absent (Rises 1 b z) (LacksPlace p d 1) (Rises 1 a z) c.in-Err-reuse.fault (λ none. absurd (can_move p d e r c.as_str-2.result.now c.as_str-3.result.now named all.0 change c.requires.number from to none)) (rises_then 0 1 a b z (no_more_then later c.in_ok-writer.ensures.later).counts)
    (call_cause (Unit {0}) (Unit {0}) absent ⊥ b z c.in-Err-reuse.fault c.in-Err-reuse.ensures.cause)

-- ---- what an early end leaves, and why it came

memory_only : {T : Type 0} (P : Type 0) (r : Result T IoFault) → IsErrAnd r (λ x. x ≡ Memory) → IsErrOf r NoSpace → P
memory_only P r is h = let p = err_from_is_err_and r is in absurd cc

pub returns-in_err-from-clause-left : goal.returns-in_err-from-clause-left
returns-in_err-from-clause-left g c = not_ok _ _ c.from_residual.result c.from_residual.ensures.1

pub returns-in_err-from-clause-takes : goal.returns-in_err-from-clause-takes
returns-in_err-from-clause-takes g c = not_given _ _ c.from_residual.result c.from_residual.ensures.1

pub returns-in_err-to-clause-left : goal.returns-in_err-to-clause-left
returns-in_err-to-clause-left g c = not_ok _ _ c.from_residual-in_err-to.result c.from_residual-in_err-to.ensures.1

pub returns-in_err-to-clause-takes : goal.returns-in_err-to-clause-takes
returns-in_err-to-clause-takes g c = not_given _ _ c.from_residual-in_err-to.result c.from_residual-in_err-to.ensures.1

pub returns-in_err-writer-clause-left : goal.returns-in_err-writer-clause-left
returns-in_err-writer-clause-left g c = not_ok _ _ c.from_residual-in_err-writer.result c.from_residual-in_err-writer.ensures.1

pub returns-in_err-writer-clause-takes : goal.returns-in_err-writer-clause-takes
returns-in_err-writer-clause-takes g c = not_given _ _ c.from_residual-in_err-writer.result c.from_residual-in_err-writer.ensures.1

pub returns-in_err-from-clause-later : goal.returns-in_err-from-clause-later
returns-in_err-from-clause-later g c = no_more_same (g.F.FileSystem.is_bounded c.args.files.now) (g.F.FileSystem.meter c.args.files.now)

pub returns-in_err-from-clause-lacks : goal.returns-in_err-from-clause-lacks
returns-in_err-from-clause-lacks g c = memory_only _ c.from_residual.result c.from_residual.ensures.1

pub returns-in_err-from-clause-taken : goal.returns-in_err-from-clause-taken
returns-in_err-from-clause-taken g c = λ unset. for_memory (IsUnmade c.args.self.now (g.F.FileSystem.disk c.args.files.now)) (IsBarred c.args.self.now (g.F.FileSystem.disk c.args.files.now)) c.from_residual.result c.from_residual.ensures.1

pub returns-in_err-to-clause-later : goal.returns-in_err-to-clause-later
returns-in_err-to-clause-later g c = no_more_same (g.F.FileSystem.is_bounded c.args.files.now) (g.F.FileSystem.meter c.args.files.now)

pub returns-in_err-to-clause-lacks : goal.returns-in_err-to-clause-lacks
returns-in_err-to-clause-lacks g c = memory_only _ c.from_residual-in_err-to.result c.from_residual-in_err-to.ensures.1

pub returns-in_err-to-clause-taken : goal.returns-in_err-to-clause-taken
returns-in_err-to-clause-taken g c = λ unset. for_memory (IsUnmade c.args.self.now (g.F.FileSystem.disk c.args.files.now)) (IsBarred c.args.self.now (g.F.FileSystem.disk c.args.files.now)) c.from_residual-in_err-to.result c.from_residual-in_err-to.ensures.1

pub returns-in-Err-clause-later : goal.returns-in-Err-clause-later
returns-in-Err-clause-later g c = no_more_call (fd_of (g.F.FileSystem.disk c.args.files.now).names c.as_str.result.now ≡ None) ⊥ ⊥ _ _ _ _ _ c.in-Err.ensures.cause c.in-Err.ensures.call c.in-Err.ensures.bound

pub returns-in_err-writer-clause-later : goal.returns-in_err-writer-clause-later
returns-in_err-writer-clause-later g c = no_more_then (no_more_call (fd_of (g.F.FileSystem.disk c.args.files.now).names c.as_str.result.now ≡ None) ⊥ ⊥ _ _ _ _ _ c.in-Ok.ensures.cause c.in-Ok.ensures.call c.in-Ok.ensures.bound) c.in_err-writer.ensures.later

pub returns-in-Ok-reuse-clause-later : goal.returns-in-Ok-reuse-clause-later
returns-in-Ok-reuse-clause-later g c = no_more_then (no_more_call (fd_of (g.F.FileSystem.disk c.args.files.now).names c.as_str.result.now ≡ None) ⊥ ⊥ _ _ _ _ _ c.in-Ok.ensures.cause c.in-Ok.ensures.call c.in-Ok.ensures.bound) (no_more_then c.in_ok-writer.ensures.later (no_more_call (IsNoMove (g.F.FileSystem.disk c.begin_file.new.files) c.as_str-2.result.now c.as_str-3.result.now) ⊥ (IsIn c.as_str-3.result.now (g.F.FileSystem.disk c.begin_file.new.files).directories) _ _ _ _ _ c.in-Ok-reuse.ensures.cause c.in-Ok-reuse.ensures.call c.in-Ok-reuse.ensures.bound))

pub returns-clause-later : goal.returns-clause-later
returns-clause-later g c = no_more_then (no_more_call (fd_of (g.F.FileSystem.disk c.args.files.now).names c.as_str.result.now ≡ None) ⊥ ⊥ _ _ _ _ _ c.in-Ok.ensures.cause c.in-Ok.ensures.call c.in-Ok.ensures.bound) (no_more_then c.in_ok-writer.ensures.later (no_more_call (IsNoMove (g.F.FileSystem.disk c.begin_file.new.files) c.as_str-2.result.now c.as_str-3.result.now) ⊥ (IsIn c.as_str-3.result.now (g.F.FileSystem.disk c.begin_file.new.files).directories) _ _ _ _ _ c.in-Err-reuse.ensures.cause c.in-Err-reuse.ensures.call c.in-Err-reuse.ensures.bound))
