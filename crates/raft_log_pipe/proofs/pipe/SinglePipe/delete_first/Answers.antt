use Rattle.std.proofs.Common.{◌≡◌, ◌⊎◌, inl, ⊎_elim, ◌+◌, ◌^◌, ◌<◌, List, ◌∷◌, ◌++◌, drop, Some, None, inr, refl, sym, ap, arith, ◌∙◌}
use Rattle.std.specs.Prelude.{Ok, Err}
use Rattle.raft_log_disk.specs.Disk.{fd_of}
use Rattle.raft_log_disk.specs.Name.{log_file_of}
use Rattle.raft_log_files.specs.FileName.{log_file_name}
use Rattle.raft_log_pipe.specs.declared.file.File.{File}
use Rattle.raft_log_pipe.specs.Pipe.{first_of, id_of}
use Rattle.raft_log_pipe.proofs.NextLemmas.{path_says}
use Rattle.raft_log_pipe.proofs.PurgeLemmas.{deleted_fresh, deleted_none, first_gone, first_number, first_placed, holds_all, purged, removed_first}
use Rattle.raft_log_pipe.proofs.AloneLemmas.{with_older}
use Rattle.raft_log_disk.proofs.RefusalLemmas.{no_more_call, taken_call}
use Rattle.raft_log_pipe.specs.Taken.{HasLost}
use Rattle.raft_log_pipe.proofs.LostLemmas.{first_lost, lost_before}
use Rattle.raft_log_pipe.proofs.TakenLemmas.{exit_io, still_taken}
use Rattle.raft_log_disk.specs.Cause.{Rises}
use Rattle.raft_log_pipe.proofs.CausedLemmas.{call_cause, exit_cause}
use Rattle.raft_log_disk.proofs.CauseLemmas.{at_err}
use Rattle.raft_log_pipe.specs.Purging.{AreGone}
use Rattle.raft_log_pipe.proofs.EndLemmas.{not_ok}
use Rattle.raft_log_pipe.proofs.pipe.SinglePipe.delete_first.Goals as goal

pub build_file_path-requires : goal.build_file_path-requires
build_file_path-requires g c = omega (arith, (first_number c.args.self.now (g.F.FileSystem.disk c.args.files.now) c.index-file.result.now c.requires.pipe c.requires.some c.index-file.ensures).0, c.new-id.ensures.seq)

pub returns-in_err-path-clause-holds : goal.returns-in_err-path-clause-holds
returns-in_err-path-clause-holds g c = holds_all c.args.self.now (g.F.FileSystem.disk c.args.files.now) (g.F.FileSystem.disk c.args.files.now) c.requires.pipe refl

pub returns-in_err-path-clause-rest : goal.returns-in_err-path-clause-rest
returns-in_err-path-clause-rest g c = (0, refl)

pub returns-in_err-delete-clause-rest : goal.returns-in_err-delete-clause-rest
returns-in_err-delete-clause-rest g c = (
  1,
  sym (ap (λ (l : List File). drop 1 l)
      (removed_first c.args.self.now.older.items c.index-file.result.now c.requires.some c.index-file.ensures ∙ ap (λ (l : List File). c.index-file.result.now ∷ l) (sym c.remove.ensures.items))),
)

pub returns-clause-rest : goal.returns-clause-rest
returns-clause-rest g c = (
  1,
  sym (ap (λ (l : List File). drop 1 l)
      (removed_first c.args.self.now.older.items c.index-file.result.now c.requires.some c.index-file.ensures ∙ ap (λ (l : List File). c.index-file.result.now ∷ l) (sym c.remove.ensures.items))),
)

pub returns-in_err-delete-clause-pipe : goal.returns-in_err-delete-clause-pipe
returns-in_err-delete-clause-pipe g c =
    let met = g.met.F.FileSystem g.world.𝓛 g.world.𝓜 g.world.𝓡 ((λ s x. x), (λ x. x), (λ x. x), λ x. x) in
    let number : c.new-id.result.seq < 10 ^ 16 = omega (arith, (first_number c.args.self.now (g.F.FileSystem.disk c.args.files.now) c.index-file.result.now c.requires.pipe c.requires.some c.index-file.ensures).0, c.new-id.ensures.seq) in
    let says : log_file_of c.as_str-2.result.now ≡ Some (id_of c.args.self.now.queue c.index-file.result.now.seq)
    = path_says _ _ _ c.new-id.result number refl (c.as_str-2.ensures.value ∙ c.in_ok-path.ensures) ∙ (λ i. Some (record { queue = c.new-id.ensures.queue i; seq = c.new-id.ensures.seq i })) in
    (purged c.args.self.now c.remove.new.self c.index-file.result.now (g.F.FileSystem.disk c.args.files.now) (g.F.FileSystem.disk c.delete.new.self) c.as_str-2.result.now (met.is_named c.args.files.now) c.requires.pipe c.requires.some c.index-file.ensures c.remove.ensures.items says c.in_err-delete.ensures.err).pipe

pub returns-clause-pipe : goal.returns-clause-pipe
returns-clause-pipe g c =
    let met = g.met.F.FileSystem g.world.𝓛 g.world.𝓜 g.world.𝓡 ((λ s x. x), (λ x. x), (λ x. x), λ x. x) in
    let number : c.new-id.result.seq < 10 ^ 16 = omega (arith, (first_number c.args.self.now (g.F.FileSystem.disk c.args.files.now) c.index-file.result.now c.requires.pipe c.requires.some c.index-file.ensures).0, c.new-id.ensures.seq) in
    let says : log_file_of c.as_str-2.result.now ≡ Some (id_of c.args.self.now.queue c.index-file.result.now.seq)
    = path_says _ _ _ c.new-id.result number refl (c.as_str-2.ensures.value ∙ c.in_ok-path.ensures) ∙ (λ i. Some (record { queue = c.new-id.ensures.queue i; seq = c.new-id.ensures.seq i })) in
    (purged c.args.self.now c.remove.new.self c.index-file.result.now (g.F.FileSystem.disk c.args.files.now) (g.F.FileSystem.disk c.delete.new.self) c.as_str-2.result.now (met.is_named c.args.files.now) c.requires.pipe c.requires.some c.index-file.ensures c.remove.ensures.items says (inr c.in_ok-delete.ensures.ok)).pipe

pub returns-in_err-delete-clause-holds : goal.returns-in_err-delete-clause-holds
returns-in_err-delete-clause-holds g c =
    let met = g.met.F.FileSystem g.world.𝓛 g.world.𝓜 g.world.𝓡 ((λ s x. x), (λ x. x), (λ x. x), λ x. x) in
    let number : c.new-id.result.seq < 10 ^ 16 = omega (arith, (first_number c.args.self.now (g.F.FileSystem.disk c.args.files.now) c.index-file.result.now c.requires.pipe c.requires.some c.index-file.ensures).0, c.new-id.ensures.seq) in
    let says : log_file_of c.as_str-2.result.now ≡ Some (id_of c.args.self.now.queue c.index-file.result.now.seq)
    = path_says _ _ _ c.new-id.result number refl (c.as_str-2.ensures.value ∙ c.in_ok-path.ensures) ∙ (λ i. Some (record { queue = c.new-id.ensures.queue i; seq = c.new-id.ensures.seq i })) in
    (purged c.args.self.now c.remove.new.self c.index-file.result.now (g.F.FileSystem.disk c.args.files.now) (g.F.FileSystem.disk c.delete.new.self) c.as_str-2.result.now (met.is_named c.args.files.now) c.requires.pipe c.requires.some c.index-file.ensures c.remove.ensures.items says c.in_err-delete.ensures.err).holds

pub returns-clause-holds : goal.returns-clause-holds
returns-clause-holds g c =
    let met = g.met.F.FileSystem g.world.𝓛 g.world.𝓜 g.world.𝓡 ((λ s x. x), (λ x. x), (λ x. x), λ x. x) in
    let number : c.new-id.result.seq < 10 ^ 16 = omega (arith, (first_number c.args.self.now (g.F.FileSystem.disk c.args.files.now) c.index-file.result.now c.requires.pipe c.requires.some c.index-file.ensures).0, c.new-id.ensures.seq) in
    let says : log_file_of c.as_str-2.result.now ≡ Some (id_of c.args.self.now.queue c.index-file.result.now.seq)
    = path_says _ _ _ c.new-id.result number refl (c.as_str-2.ensures.value ∙ c.in_ok-path.ensures) ∙ (λ i. Some (record { queue = c.new-id.ensures.queue i; seq = c.new-id.ensures.seq i })) in
    (purged c.args.self.now c.remove.new.self c.index-file.result.now (g.F.FileSystem.disk c.args.files.now) (g.F.FileSystem.disk c.delete.new.self) c.as_str-2.result.now (met.is_named c.args.files.now) c.requires.pipe c.requires.some c.index-file.ensures c.remove.ensures.items says (inr c.in_ok-delete.ensures.ok)).holds

pub returns-in_err-delete-clause-keeps : goal.returns-in_err-delete-clause-keeps
returns-in_err-delete-clause-keeps g c =
    let met = g.met.F.FileSystem g.world.𝓛 g.world.𝓜 g.world.𝓡 ((λ s x. x), (λ x. x), (λ x. x), λ x. x) in
    let number : c.new-id.result.seq < 10 ^ 16 = omega (arith, (first_number c.args.self.now (g.F.FileSystem.disk c.args.files.now) c.index-file.result.now c.requires.pipe c.requires.some c.index-file.ensures).0, c.new-id.ensures.seq) in
    let says : log_file_of c.as_str-2.result.now ≡ Some (id_of c.args.self.now.queue c.index-file.result.now.seq)
    = path_says _ _ _ c.new-id.result number refl (c.as_str-2.ensures.value ∙ c.in_ok-path.ensures) ∙ (λ i. Some (record { queue = c.new-id.ensures.queue i; seq = c.new-id.ensures.seq i })) in
    (purged c.args.self.now c.remove.new.self c.index-file.result.now (g.F.FileSystem.disk c.args.files.now) (g.F.FileSystem.disk c.delete.new.self) c.as_str-2.result.now (met.is_named c.args.files.now) c.requires.pipe c.requires.some c.index-file.ensures c.remove.ensures.items says c.in_err-delete.ensures.err).keeps

pub returns-clause-keeps : goal.returns-clause-keeps
returns-clause-keeps g c =
    let met = g.met.F.FileSystem g.world.𝓛 g.world.𝓜 g.world.𝓡 ((λ s x. x), (λ x. x), (λ x. x), λ x. x) in
    let number : c.new-id.result.seq < 10 ^ 16 = omega (arith, (first_number c.args.self.now (g.F.FileSystem.disk c.args.files.now) c.index-file.result.now c.requires.pipe c.requires.some c.index-file.ensures).0, c.new-id.ensures.seq) in
    let says : log_file_of c.as_str-2.result.now ≡ Some (id_of c.args.self.now.queue c.index-file.result.now.seq)
    = path_says _ _ _ c.new-id.result number refl (c.as_str-2.ensures.value ∙ c.in_ok-path.ensures) ∙ (λ i. Some (record { queue = c.new-id.ensures.queue i; seq = c.new-id.ensures.seq i })) in
    (purged c.args.self.now c.remove.new.self c.index-file.result.now (g.F.FileSystem.disk c.args.files.now) (g.F.FileSystem.disk c.delete.new.self) c.as_str-2.result.now (met.is_named c.args.files.now) c.requires.pipe c.requires.some c.index-file.ensures c.remove.ensures.items says (inr c.in_ok-delete.ensures.ok)).keeps

pub returns-clause-gone : goal.returns-clause-gone
returns-clause-gone g c =
    let met = g.met.F.FileSystem g.world.𝓛 g.world.𝓜 g.world.𝓡 ((λ s x. x), (λ x. x), (λ x. x), λ x. x) in
    first_gone c.args.self.now (with_older c.args.self.now c.remove.new.self) c.index-file.result.now c.index.result.now (g.F.FileSystem.disk c.delete.new.self) c.as_str-2.result.now
    (removed_first c.args.self.now.older.items c.index-file.result.now c.requires.some c.index-file.ensures ∙ ap (λ (l : List File). c.index-file.result.now ∷ l) (sym c.remove.ensures.items))
    (first_placed c.args.self.now (g.F.FileSystem.disk c.args.files.now) c.index-file.result.now c.requires.pipe c.requires.some c.index-file.ensures) c.index.ensures
    (c.as_str-2.ensures.value ∙ c.in_ok-path.ensures ∙ (λ i. c.as_str.ensures.value i ++ 47 ∷ log_file_name (record { queue = c.new-id.ensures.queue i; seq = c.new-id.ensures.seq i })))
    (deleted_none (g.F.FileSystem.disk c.args.files.now) (g.F.FileSystem.disk c.delete.new.self) c.as_str-2.result.now (met.is_named c.args.files.now) c.in_ok-delete.ensures.ok)

pub returns-clause-lost : goal.returns-clause-lost
returns-clause-lost g c =
    let met = g.met.F.FileSystem g.world.𝓛 g.world.𝓜 g.world.𝓡 ((λ s x. x), (λ x. x), (λ x. x), λ x. x) in
    let number : c.new-id.result.seq < 10 ^ 16 = omega (arith, (first_number c.args.self.now (g.F.FileSystem.disk c.args.files.now) c.index-file.result.now c.requires.pipe c.requires.some c.index-file.ensures).0, c.new-id.ensures.seq) in
    let says : log_file_of c.as_str-2.result.now ≡ Some (id_of c.args.self.now.queue c.index-file.result.now.seq)
    = path_says _ _ _ c.new-id.result number refl (c.as_str-2.ensures.value ∙ c.in_ok-path.ensures) ∙ (λ i. Some (record { queue = c.new-id.ensures.queue i; seq = c.new-id.ensures.seq i })) in
    let done = purged c.args.self.now c.remove.new.self c.index-file.result.now (g.F.FileSystem.disk c.args.files.now) (g.F.FileSystem.disk c.delete.new.self) c.as_str-2.result.now (met.is_named c.args.files.now) c.requires.pipe c.requires.some c.index-file.ensures c.remove.ensures.items says (inr c.in_ok-delete.ensures.ok) in
    λ seq. lost_before c.args.self.now c.remove.new.self c.index-file.result.now (g.F.FileSystem.disk c.args.files.now) (g.F.FileSystem.disk c.delete.new.self) (first_of (with_older c.args.self.now c.remove.new.self)) seq c.requires.pipe
    (removed_first c.args.self.now.older.items c.index-file.result.now c.requires.some c.index-file.ensures ∙ ap (λ (l : List File). c.index-file.result.now ∷ l) (sym c.remove.ensures.items))
    done.keeps (omega (arith, done.shorter))

pub returns-in_err-delete-clause-taken : goal.returns-in_err-delete-clause-taken
returns-in_err-delete-clause-taken g c =
    let p = c.args.self.now in
    let d = g.F.FileSystem.disk c.args.files.now in
    let lost : Type 0 = HasLost p d (first_of p + 1) in
    λ free.
    exit_io (Unit {0}) (Unit {0}) ⊥ lost ⊥ c.from_residual-in_err-delete.result c.in_err-delete.field-0.0 c.from_residual-in_err-delete.ensures.1
    (still_taken (Unit {0}) (Unit {0}) (fd_of d.names c.as_str-2.result.now ≡ None) ⊥ lost ⊥ c.in_err-delete.field-0.0
    (first_lost p c.index-file.result.now c.index.result.now d c.as_str-2.result.now c.requires.pipe c.requires.some c.index-file.ensures c.index.ensures
    (c.as_str-2.ensures.value ∙ c.in_ok-path.ensures ∙ (λ i. c.as_str.ensures.value i ++ 47 ∷ log_file_name (record { queue = c.new-id.ensures.queue i; seq = c.new-id.ensures.seq i }))))
    (λ x. x) (taken_call _ ⊥ ⊥ _ _ _ (Err c.in_err-delete.field-0.0) (λ x. x) free c.in_err-delete.ensures.cause c.in_err-delete.ensures.call))

pub returns-in_err-delete-clause-later : goal.returns-in_err-delete-clause-later
returns-in_err-delete-clause-later g c = no_more_call _ _ _ _ _ _ _ (Err c.in_err-delete.field-0.0) c.in_err-delete.ensures.cause c.in_err-delete.ensures.call c.in_err-delete.ensures.bound

pub returns-clause-later : goal.returns-clause-later
returns-clause-later g c = no_more_call _ _ _ _ _ _ _ (Ok tt) c.in_ok-delete.ensures.cause c.in_ok-delete.ensures.call c.in_ok-delete.ensures.bound

pub returns-in_err-delete-clause-cause : goal.returns-in_err-delete-clause-cause
returns-in_err-delete-clause-cause g c =
    let p = c.args.self.now in
    let d = g.F.FileSystem.disk c.args.files.now in
    let lost : Type 0 = HasLost p d (first_of p + 1) in
    let rises : Type 0 = Rises 1 (g.F.FileSystem.meter c.args.files.now) (g.F.FileSystem.meter c.delete.new.self) in
    exit_cause (Unit {0}) rises ⊥ ⊥ lost c.from_residual-in_err-delete.result c.in_err-delete.field-0.0 c.from_residual-in_err-delete.ensures.1
    (still_taken (Unit {0}) (Unit {0}) (fd_of d.names c.as_str-2.result.now ≡ None) rises lost rises c.in_err-delete.field-0.0
    (first_lost p c.index-file.result.now c.index.result.now d c.as_str-2.result.now c.requires.pipe c.requires.some c.index-file.ensures c.index.ensures
    (c.as_str-2.ensures.value ∙ c.in_ok-path.ensures ∙ (λ i. c.as_str.ensures.value i ++ 47 ∷ log_file_name (record { queue = c.new-id.ensures.queue i; seq = c.new-id.ensures.seq i }))))
    (λ x. x) (call_cause (Unit {0}) (Unit {0}) (fd_of d.names c.as_str-2.result.now ≡ None) ⊥ _ _ c.in_err-delete.field-0.0 c.in_err-delete.ensures.cause))

-- the file is where it was, or has gone

pub returns-in_err-path-clause-stays : goal.returns-in_err-path-clause-stays
returns-in_err-path-clause-stays g c =
    let d = g.F.FileSystem.disk c.args.files.now in
    at_err c.from_residual.result ((d ≡ d) ⊎ AreGone c.args.self.now c.args.self.now d) (inl refl)

pub returns-in_err-delete-clause-stays : goal.returns-in_err-delete-clause-stays
returns-in_err-delete-clause-stays g c =
    let met = g.met.F.FileSystem g.world.𝓛 g.world.𝓜 g.world.𝓡 ((λ s x. x), (λ x. x), (λ x. x), λ x. x) in
    let p = c.args.self.now in
    let q = with_older p c.remove.new.self in
    let d = g.F.FileSystem.disk c.args.files.now in
    let e = g.F.FileSystem.disk c.delete.new.self in
    at_err c.from_residual-in_err-delete.result ((e ≡ d) ⊎ AreGone p q e)
    (⊎_elim (λ same. inl same)
    (λ gone. inr (first_gone p q c.index-file.result.now c.index.result.now e c.as_str-2.result.now
    (removed_first p.older.items c.index-file.result.now c.requires.some c.index-file.ensures ∙ ap (λ (l : List File). c.index-file.result.now ∷ l) (sym c.remove.ensures.items))
    (first_placed p d c.index-file.result.now c.requires.pipe c.requires.some c.index-file.ensures) c.index.ensures
    (c.as_str-2.ensures.value ∙ c.in_ok-path.ensures ∙ (λ i. c.as_str.ensures.value i ++ 47 ∷ log_file_name (record { queue = c.new-id.ensures.queue i; seq = c.new-id.ensures.seq i })))
    (deleted_none d e c.as_str-2.result.now (met.is_named c.args.files.now) gone)))
    c.in_err-delete.ensures.err)

pub returns-clause-fresh : goal.returns-clause-fresh
returns-clause-fresh g c = λ path fd there. deleted_fresh (g.F.FileSystem.disk c.args.files.now) (g.F.FileSystem.disk c.delete.new.self) c.as_str-2.result.now path fd c.in_ok-delete.ensures.ok there

pub returns-in_err-delete-clause-fresh : goal.returns-in_err-delete-clause-fresh
returns-in_err-delete-clause-fresh g c = not_ok _ _ c.from_residual-in_err-delete.result c.from_residual-in_err-delete.ensures.1

pub returns-in_err-delete-clause-ok : goal.returns-in_err-delete-clause-ok
returns-in_err-delete-clause-ok g c = not_ok _ _ c.from_residual-in_err-delete.result c.from_residual-in_err-delete.ensures.1

pub returns-in_err-delete-clause-gone : goal.returns-in_err-delete-clause-gone
returns-in_err-delete-clause-gone g c = not_ok _ _ c.from_residual-in_err-delete.result c.from_residual-in_err-delete.ensures.1

pub returns-in_err-delete-clause-lost : goal.returns-in_err-delete-clause-lost
returns-in_err-delete-clause-lost g c = not_ok _ _ c.from_residual-in_err-delete.result c.from_residual-in_err-delete.ensures.1

pub returns-in_err-path-clause-fresh : goal.returns-in_err-path-clause-fresh
returns-in_err-path-clause-fresh g c = not_ok _ _ c.from_residual.result c.from_residual.ensures.1

pub returns-in_err-path-clause-ok : goal.returns-in_err-path-clause-ok
returns-in_err-path-clause-ok g c = not_ok _ _ c.from_residual.result c.from_residual.ensures.1

pub returns-in_err-path-clause-gone : goal.returns-in_err-path-clause-gone
returns-in_err-path-clause-gone g c = not_ok _ _ c.from_residual.result c.from_residual.ensures.1

pub returns-in_err-path-clause-lost : goal.returns-in_err-path-clause-lost
returns-in_err-path-clause-lost g c = not_ok _ _ c.from_residual.result c.from_residual.ensures.1
