-- What early ends of calls owe.
use Rattle.std.proofs.Common.{◌≡◌, inl, inr, ◌+◌, ◌-◌, ◌^◌, min, List, Result, IsErrAnd, refl, sym, ap, subst, ◌∙◌}
use Rattle.std.specs.Prelude.{IsErr}
use Rattle.std.proofs.lemmas.Result.{err_from_is_err_and}
use Rattle.raft_log_disk.specs.Cause.{Meter}
use Rattle.raft_log_disk.specs.Disk.{Disk}
use Rattle.raft_log_disk.specs.Text.{Text}
use Rattle.raft_log_files.specs.declared.error.Error.{Error}
use Rattle.raft_log_recovery.specs.Scan.{IsDropFault, IsScanFault, OnlyMakes}

pub an_err : {T E : Type 0} (Q : E → Type 0) (r : Result T E) → IsErrAnd r Q → IsErr r
an_err Q r is = let p = err_from_is_err_and r is in rw p.1 refl

-- ---- of a scan, whose directories are these under another name

pub only_on : (ds es : List Text) (d e g : Disk) → es ≡ ds → OnlyMakes es d e → g ≡ e → OnlyMakes ds d g
only_on ds es d e g same makes is = subst (OnlyMakes ds d) (sym is) (subst (λ l. OnlyMakes l d e) same makes)

pub fault_on : (ds es : List Text) (d : Disk) (a b : Meter) (e : Error) → es ≡ ds → IsScanFault es d a b e → IsScanFault ds d a b e
fault_on ds es d a b e same fault = subst (λ l. IsScanFault l d a b e) same fault

pub drop_fault : (ds : List Text) (d : Disk) (a b m : Meter) (e : Error) → b.refusals ≡ a.refusals → IsDropFault b m e → IsScanFault ds d a m e
drop_fault ds d a b m e same (inl memory) = inl memory
drop_fault ds d a b m e same (inr refused) = inr (inr (refused.0, refused.1 ∙ ap (λ n. min (n + 1) (2 ^ 64 - 1)) same))
