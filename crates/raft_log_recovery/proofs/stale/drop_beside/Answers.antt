-- What is kept beside a file goes by one call, or by none.
use Rattle.std.proofs.Common.{◌≡◌, ◌⊎◌, inl, inr, refl, sym, subst, ◌∙◌, arith}
use Rattle.std.specs.Prelude.{Result, Ok}
use Rattle.raft_log_disk.specs.Cause.{HasCause, IsOneCall, IsPassedOver, Meter, RefusesNoMore}
use Rattle.raft_log_disk.specs.declared.fault.IoFault.{IoFault}
use Rattle.raft_log_disk.proofs.RefusalLemmas.{no_more_call, no_more_then}
use Rattle.raft_log_recovery.proofs.stale.drop_beside.Goals.{then-exists_metadata+in_ok-delete_metadata, else-exists_metadata}
use Rattle.raft_log_recovery.proofs.stale.drop_beside.Goals as goal

gone_later : {T : Type 0} (a b : Type 0) (old new : Meter) (r : Result T IoFault) → HasCause ⊥ ⊥ old new r → IsPassedOver old new r ⊎ IsOneCall ⊥ old new r → (b → a) → RefusesNoMore a b old new
gone_later a b old new r cause (inl passed) bound =
    subst (λ m. RefusesNoMore a b old m) (sym passed.0) (record { fuse = λ e. e; burns = λ n is. (n, is, omega arith); reads = refl; sound = refl; room = bound; counts = omega arith; spaces = omega arith })
gone_later a b old new r cause (inr call) bound = no_more_call ⊥ ⊥ ⊥ a b old new r cause call bound

pub loop-directory-preserved : goal.loop-directory-preserved
loop-directory-preserved g c =
    let at = c.loop-directory.invariant in
    let free = g.F.FileSystem.is_bounded c.loop-directory.files in
    elim c.if-exists_metadata.branch [
      | then-exists_metadata+in_ok-delete_metadata w ↦
          let e = w.in_ok-delete_metadata.ensures in
          rw w.files-is (record {
            kept = e.kept ∙ at.kept;
            counted = e.cause.refused ∙ at.counted;
            later = no_more_then at.later (gone_later free (g.F.FileSystem.is_bounded w.delete_metadata.new.self) (g.F.FileSystem.meter c.loop-directory.files) (g.F.FileSystem.meter w.delete_metadata.new.self) (Ok tt) e.cause e.call e.bound);
          })
      | else-exists_metadata w ↦ rw w.files-is at
    ]
