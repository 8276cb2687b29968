use Rattle.std.proofs.Common.{◌≡◌, inl, inr, ◌++◌, ◌∷◌, [], List, ℕ, None, refl, sym, ap, subst, arith, ◌∙◌}
use Rattle.std.specs.Prelude.{Err}
use Rattle.raft_log_disk.specs.Cause.{Rises}
use Rattle.raft_log_disk.specs.Disk.{fd_of}
use Rattle.raft_log_disk.proofs.RefusalLemmas.{taken_call}
use Rattle.raft_log_files.specs.FileName.{reserved_name}
use Rattle.raft_log_pipe.specs.Alone.{directories_of_pipe}
use Rattle.raft_log_pipe.specs.Kept.{with_reserved}
use Rattle.raft_log_pipe.specs.Reserved.{AreReserved, reserved_path}
use Rattle.raft_log_pipe.proofs.AloneLemmas.{mapped_at}
use Rattle.raft_log_pipe.proofs.CausedLemmas.{call_cause, exit_cause}
use Rattle.raft_log_pipe.proofs.ReuseLemmas.{first_within, is_there}
use Rattle.raft_log_pipe.proofs.TakenLemmas.{exit_io, still_taken}
use Rattle.raft_log_pipe.proofs.TrimLemmas.{last_gone, last_reserved, trimmed}
use Rattle.raft_log_pipe.proofs.UnreservedLemmas.{same_unreserved}
use Rattle.raft_log_pipe.proofs.pipe.SinglePipe.delete_last.Goals as goal

pub index-requires : goal.index-requires
index-requires g c =
    let p = c.args.self.now in
    let d = g.F.FileSystem.disk c.args.files.now in
    let r = c.in-Some.kept in
    let rs = c.pop.new.self in
    let split : p.reserved.items ≡ rs.items ++ r ∷ [] = c.in-Some.ensures.items in
    let all = last_reserved p.queue (directories_of_pipe p) d rs.items r (subst (AreReserved p.queue (directories_of_pipe p) d) split c.requires.reserved) in
    omega (arith, first_within p d r all.1, c.args.self.now.paths.ok.0)

pub reserved_path-requires : goal.reserved_path-requires
reserved_path-requires g c =
    let p = c.args.self.now in
    let d = g.F.FileSystem.disk c.args.files.now in
    let r = c.in-Some.kept in
    let rs = c.pop.new.self in
    let split : p.reserved.items ≡ rs.items ++ r ∷ [] = c.in-Some.ensures.items in
    let all = last_reserved p.queue (directories_of_pipe p) d rs.items r (subst (AreReserved p.queue (directories_of_pipe p) d) split c.requires.reserved) in
    all.1.number

pub returns-in_err-path-clause-pipe : goal.returns-in_err-path-clause-pipe
returns-in_err-path-clause-pipe g c =
    let met = g.met.F.FileSystem g.world.𝓛 g.world.𝓜 g.world.𝓡 ((λ s x. x), (λ x. x), (λ x. x), λ x. x) in
    let named = met.is_named c.args.files.now in
    let p = c.args.self.now in
    let d = g.F.FileSystem.disk c.args.files.now in
    let r = c.in-Some.kept in
    let rs = c.pop.new.self in
    let split : p.reserved.items ≡ rs.items ++ r ∷ [] = c.in-Some.ensures.items in
    let all = last_reserved p.queue (directories_of_pipe p) d rs.items r (subst (AreReserved p.queue (directories_of_pipe p) d) split c.requires.reserved) in
    (trimmed p d d rs r (reserved_path (directories_of_pipe p) r.path_id r.seq) named named c.requires split refl (inl refl)).pipe

pub returns-in_err-path-clause-unreserved : goal.returns-in_err-path-clause-unreserved
returns-in_err-path-clause-unreserved g c =
    same_unreserved _ _ refl

pub returns-in_err-delete-clause-pipe : goal.returns-in_err-delete-clause-pipe
returns-in_err-delete-clause-pipe g c =
    let met = g.met.F.FileSystem g.world.𝓛 g.world.𝓜 g.world.𝓡 ((λ s x. x), (λ x. x), (λ x. x), λ x. x) in
    let named = met.is_named c.args.files.now in
    let p = c.args.self.now in
    let d = g.F.FileSystem.disk c.args.files.now in
    let r = c.in-Some.kept in
    let rs = c.pop.new.self in
    let split : p.reserved.items ≡ rs.items ++ r ∷ [] = c.in-Some.ensures.items in
    let all = last_reserved p.queue (directories_of_pipe p) d rs.items r (subst (AreReserved p.queue (directories_of_pipe p) d) split c.requires.reserved) in
    let own = c.in_ok-path.ensures ∙ ap (λ (l : List ℕ). l ++ 47 ∷ reserved_name r.seq) (c.as_str.ensures.value ∙ sym (mapped_at p.paths.items r.path_id c.index.result.now (first_within p d r all.1) c.index.ensures)) in
    let path : c.as_str-2.result.now ≡ reserved_path (directories_of_pipe p) r.path_id r.seq = c.as_str-2.ensures.value ∙ own in
    let e = g.F.FileSystem.disk c.delete.new.self in
    (trimmed p d e rs r c.as_str-2.result.now named (met.is_named c.delete.new.self) c.requires split path c.in_err-delete.ensures.err).pipe

pub returns-in_err-delete-clause-unreserved : goal.returns-in_err-delete-clause-unreserved
returns-in_err-delete-clause-unreserved g c =
    let met = g.met.F.FileSystem g.world.𝓛 g.world.𝓜 g.world.𝓡 ((λ s x. x), (λ x. x), (λ x. x), λ x. x) in
    let named = met.is_named c.args.files.now in
    let p = c.args.self.now in
    let d = g.F.FileSystem.disk c.args.files.now in
    let r = c.in-Some.kept in
    let rs = c.pop.new.self in
    let split : p.reserved.items ≡ rs.items ++ r ∷ [] = c.in-Some.ensures.items in
    let all = last_reserved p.queue (directories_of_pipe p) d rs.items r (subst (AreReserved p.queue (directories_of_pipe p) d) split c.requires.reserved) in
    let own = c.in_ok-path.ensures ∙ ap (λ (l : List ℕ). l ++ 47 ∷ reserved_name r.seq) (c.as_str.ensures.value ∙ sym (mapped_at p.paths.items r.path_id c.index.result.now (first_within p d r all.1) c.index.ensures)) in
    let path : c.as_str-2.result.now ≡ reserved_path (directories_of_pipe p) r.path_id r.seq = c.as_str-2.ensures.value ∙ own in
    let e = g.F.FileSystem.disk c.delete.new.self in
    (trimmed p d e rs r c.as_str-2.result.now named (met.is_named c.delete.new.self) c.requires split path c.in_err-delete.ensures.err).unreserved

pub returns-in_err-delete-clause-none : goal.returns-in_err-delete-clause-none
returns-in_err-delete-clause-none g c =
    let met = g.met.F.FileSystem g.world.𝓛 g.world.𝓜 g.world.𝓡 ((λ s x. x), (λ x. x), (λ x. x), λ x. x) in
    let named = met.is_named c.args.files.now in
    let p = c.args.self.now in
    let d = g.F.FileSystem.disk c.args.files.now in
    let r = c.in-Some.kept in
    let rs = c.pop.new.self in
    let split : p.reserved.items ≡ rs.items ++ r ∷ [] = c.in-Some.ensures.items in
    let all = last_reserved p.queue (directories_of_pipe p) d rs.items r (subst (AreReserved p.queue (directories_of_pipe p) d) split c.requires.reserved) in
    let own = c.in_ok-path.ensures ∙ ap (λ (l : List ℕ). l ++ 47 ∷ reserved_name r.seq) (c.as_str.ensures.value ∙ sym (mapped_at p.paths.items r.path_id c.index.result.now (first_within p d r all.1) c.index.ensures)) in
    let path : c.as_str-2.result.now ≡ reserved_path (directories_of_pipe p) r.path_id r.seq = c.as_str-2.ensures.value ∙ own in
    let e = g.F.FileSystem.disk c.delete.new.self in
    (trimmed p d e rs r c.as_str-2.result.now named (met.is_named c.delete.new.self) c.requires split path c.in_err-delete.ensures.err).none

pub returns-clause-pipe : goal.returns-clause-pipe
returns-clause-pipe g c =
    let met = g.met.F.FileSystem g.world.𝓛 g.world.𝓜 g.world.𝓡 ((λ s x. x), (λ x. x), (λ x. x), λ x. x) in
    let named = met.is_named c.args.files.now in
    let p = c.args.self.now in
    let d = g.F.FileSystem.disk c.args.files.now in
    let r = c.in-Some.kept in
    let rs = c.pop.new.self in
    let split : p.reserved.items ≡ rs.items ++ r ∷ [] = c.in-Some.ensures.items in
    let all = last_reserved p.queue (directories_of_pipe p) d rs.items r (subst (AreReserved p.queue (directories_of_pipe p) d) split c.requires.reserved) in
    let own = c.in_ok-path.ensures ∙ ap (λ (l : List ℕ). l ++ 47 ∷ reserved_name r.seq) (c.as_str.ensures.value ∙ sym (mapped_at p.paths.items r.path_id c.index.result.now (first_within p d r all.1) c.index.ensures)) in
    let path : c.as_str-2.result.now ≡ reserved_path (directories_of_pipe p) r.path_id r.seq = c.as_str-2.ensures.value ∙ own in
    let e = g.F.FileSystem.disk c.delete.new.self in
    (trimmed p d e rs r c.as_str-2.result.now named (met.is_named c.delete.new.self) c.requires split path (inr c.in_ok-delete.ensures.ok)).pipe

pub returns-clause-unreserved : goal.returns-clause-unreserved
returns-clause-unreserved g c =
    let met = g.met.F.FileSystem g.world.𝓛 g.world.𝓜 g.world.𝓡 ((λ s x. x), (λ x. x), (λ x. x), λ x. x) in
    let named = met.is_named c.args.files.now in
    let p = c.args.self.now in
    let d = g.F.FileSystem.disk c.args.files.now in
    let r = c.in-Some.kept in
    let rs = c.pop.new.self in
    let split : p.reserved.items ≡ rs.items ++ r ∷ [] = c.in-Some.ensures.items in
    let all = last_reserved p.queue (directories_of_pipe p) d rs.items r (subst (AreReserved p.queue (directories_of_pipe p) d) split c.requires.reserved) in
    let own = c.in_ok-path.ensures ∙ ap (λ (l : List ℕ). l ++ 47 ∷ reserved_name r.seq) (c.as_str.ensures.value ∙ sym (mapped_at p.paths.items r.path_id c.index.result.now (first_within p d r all.1) c.index.ensures)) in
    let path : c.as_str-2.result.now ≡ reserved_path (directories_of_pipe p) r.path_id r.seq = c.as_str-2.ensures.value ∙ own in
    let e = g.F.FileSystem.disk c.delete.new.self in
    (trimmed p d e rs r c.as_str-2.result.now named (met.is_named c.delete.new.self) c.requires split path (inr c.in_ok-delete.ensures.ok)).unreserved

pub returns-clause-none : goal.returns-clause-none
returns-clause-none g c =
    let met = g.met.F.FileSystem g.world.𝓛 g.world.𝓜 g.world.𝓡 ((λ s x. x), (λ x. x), (λ x. x), λ x. x) in
    let named = met.is_named c.args.files.now in
    let p = c.args.self.now in
    let d = g.F.FileSystem.disk c.args.files.now in
    let r = c.in-Some.kept in
    let rs = c.pop.new.self in
    let split : p.reserved.items ≡ rs.items ++ r ∷ [] = c.in-Some.ensures.items in
    let all = last_reserved p.queue (directories_of_pipe p) d rs.items r (subst (AreReserved p.queue (directories_of_pipe p) d) split c.requires.reserved) in
    let own = c.in_ok-path.ensures ∙ ap (λ (l : List ℕ). l ++ 47 ∷ reserved_name r.seq) (c.as_str.ensures.value ∙ sym (mapped_at p.paths.items r.path_id c.index.result.now (first_within p d r all.1) c.index.ensures)) in
    let path : c.as_str-2.result.now ≡ reserved_path (directories_of_pipe p) r.path_id r.seq = c.as_str-2.ensures.value ∙ own in
    let e = g.F.FileSystem.disk c.delete.new.self in
    (trimmed p d e rs r c.as_str-2.result.now named (met.is_named c.delete.new.self) c.requires split path (inr c.in_ok-delete.ensures.ok)).none

pub returns-clause-gone : goal.returns-clause-gone
returns-clause-gone g c =
    let met = g.met.F.FileSystem g.world.𝓛 g.world.𝓜 g.world.𝓡 ((λ s x. x), (λ x. x), (λ x. x), λ x. x) in
    let named = met.is_named c.args.files.now in
    let p = c.args.self.now in
    let d = g.F.FileSystem.disk c.args.files.now in
    let r = c.in-Some.kept in
    let rs = c.pop.new.self in
    let split : p.reserved.items ≡ rs.items ++ r ∷ [] = c.in-Some.ensures.items in
    let all = last_reserved p.queue (directories_of_pipe p) d rs.items r (subst (AreReserved p.queue (directories_of_pipe p) d) split c.requires.reserved) in
    let own = c.in_ok-path.ensures ∙ ap (λ (l : List ℕ). l ++ 47 ∷ reserved_name r.seq) (c.as_str.ensures.value ∙ sym (mapped_at p.paths.items r.path_id c.index.result.now (first_within p d r all.1) c.index.ensures)) in
    let path : c.as_str-2.result.now ≡ reserved_path (directories_of_pipe p) r.path_id r.seq = c.as_str-2.ensures.value ∙ own in
    let e = g.F.FileSystem.disk c.delete.new.self in
    last_gone p (with_reserved p rs p.capacity) d e rs.items r c.as_str-2.result.now named split refl path c.in_ok-delete.ensures.ok

pub returns-in_err-delete-clause-cause : goal.returns-in_err-delete-clause-cause
returns-in_err-delete-clause-cause g c =
    let met = g.met.F.FileSystem g.world.𝓛 g.world.𝓜 g.world.𝓡 ((λ s x. x), (λ x. x), (λ x. x), λ x. x) in
    let named = met.is_named c.args.files.now in
    let p = c.args.self.now in
    let d = g.F.FileSystem.disk c.args.files.now in
    let r = c.in-Some.kept in
    let rs = c.pop.new.self in
    let split : p.reserved.items ≡ rs.items ++ r ∷ [] = c.in-Some.ensures.items in
    let all = last_reserved p.queue (directories_of_pipe p) d rs.items r (subst (AreReserved p.queue (directories_of_pipe p) d) split c.requires.reserved) in
    let own = c.in_ok-path.ensures ∙ ap (λ (l : List ℕ). l ++ 47 ∷ reserved_name r.seq) (c.as_str.ensures.value ∙ sym (mapped_at p.paths.items r.path_id c.index.result.now (first_within p d r all.1) c.index.ensures)) in
    let path : c.as_str-2.result.now ≡ reserved_path (directories_of_pipe p) r.path_id r.seq = c.as_str-2.ensures.value ∙ own in
    let e = g.F.FileSystem.disk c.delete.new.self in
    let absent : Type 0 = fd_of d.names c.as_str-2.result.now ≡ None in
    let rises : Type 0 = Rises 1 (g.F.FileSystem.meter c.args.files.now) (g.F.FileSystem.meter c.delete.new.self) in
    exit_cause (Unit {0}) rises ⊥ ⊥ ⊥ c.from_residual-in_err-delete.result c.in_err-delete.field-0.0 c.from_residual-in_err-delete.ensures.1
    (still_taken (Unit {0}) (Unit {0}) absent rises ⊥ rises c.in_err-delete.field-0.0 (λ none. absurd (is_there p.queue (directories_of_pipe p) d r c.as_str-2.result.now named all.1 path none)) (λ x. x)
    (call_cause (Unit {0}) (Unit {0}) absent ⊥ _ _ c.in_err-delete.field-0.0 c.in_err-delete.ensures.cause))

pub returns-in_err-delete-clause-taken : goal.returns-in_err-delete-clause-taken
returns-in_err-delete-clause-taken g c =
    let met = g.met.F.FileSystem g.world.𝓛 g.world.𝓜 g.world.𝓡 ((λ s x. x), (λ x. x), (λ x. x), λ x. x) in
    let named = met.is_named c.args.files.now in
    let p = c.args.self.now in
    let d = g.F.FileSystem.disk c.args.files.now in
    let r = c.in-Some.kept in
    let rs = c.pop.new.self in
    let split : p.reserved.items ≡ rs.items ++ r ∷ [] = c.in-Some.ensures.items in
    let all = last_reserved p.queue (directories_of_pipe p) d rs.items r (subst (AreReserved p.queue (directories_of_pipe p) d) split c.requires.reserved) in
    let own = c.in_ok-path.ensures ∙ ap (λ (l : List ℕ). l ++ 47 ∷ reserved_name r.seq) (c.as_str.ensures.value ∙ sym (mapped_at p.paths.items r.path_id c.index.result.now (first_within p d r all.1) c.index.ensures)) in
    let path : c.as_str-2.result.now ≡ reserved_path (directories_of_pipe p) r.path_id r.seq = c.as_str-2.ensures.value ∙ own in
    let e = g.F.FileSystem.disk c.delete.new.self in
    let absent : Type 0 = fd_of d.names c.as_str-2.result.now ≡ None in
    λ free.
    exit_io (Unit {0}) (Unit {0}) ⊥ ⊥ ⊥ c.from_residual-in_err-delete.result c.in_err-delete.field-0.0 c.from_residual-in_err-delete.ensures.1
    (still_taken (Unit {0}) (Unit {0}) absent ⊥ ⊥ ⊥ c.in_err-delete.field-0.0 (λ none. absurd (is_there p.queue (directories_of_pipe p) d r c.as_str-2.result.now named all.1 path none)) (λ x. x)
    (taken_call {T = Unit {0}} absent ⊥ ⊥ (g.F.FileSystem.is_bounded c.args.files.now) _ _ (Err c.in_err-delete.field-0.0) (λ x. x) free c.in_err-delete.ensures.cause c.in_err-delete.ensures.call))
