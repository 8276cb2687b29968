-- What a fault of a call on files is told as.
use Rattle.std.proofs.Common.{◌≡◌, ◌⊎◌, inl, inr, ℕ, ◌+◌, ◌-◌, ◌^◌, min, true, false, None, refl, sym, ap, ◌∙◌}
use Rattle.std.specs.Prelude.{Err, is_some}
use Rattle.raft_log_disk.specs.declared.fault.IoFault.{IoFault}
use Rattle.raft_log_disk.specs.declared.fault.IoFault.TheVariants as fault
use Rattle.raft_log_disk.specs.Text.{Text}
use Rattle.raft_log_disk.specs.Disk.{Disk, IsFile, fd_of}
use Rattle.raft_log_disk.specs.Cause.{Meter, HasCause, counted}
use Rattle.raft_log_files.specs.Error.{io_error}
use Rattle.raft_log_files.specs.declared.error.Error.{Error}
use Rattle.raft_log_files.specs.declared.error.Error.TheVariants.{Io, Memory}
use Rattle.raft_log_files.specs.declared.error.DiskRefusal.{DiskRefusal}
use Rattle.raft_log_files.specs.declared.error.DiskRefusal.TheVariants.{Refused}

pub opened_err : {T : Type 0} (d : Disk) (path : Text) (old new : Meter) (f : IoFault) (e : Error) → e ≡ io_error f → IsFile d path → HasCause {T = T} (fd_of d.names path ≡ None) ⊥ old new (Err f)
    → (e ≡ Memory) ⊎ ((e ≡ Io Refused) × (new.refusals ≡ min (old.refusals + 1) (2 ^ 64 - 1)))
opened_err d path old new fault.Memory e is there cause = inl is
opened_err d path old new fault.Refused e is there cause = inr (is, cause.refused)
opened_err d path old new fault.NoSpace e is there cause = absurd (cause.no_space refl)
opened_err d path old new fault.NotFound e is there cause =
    let clash : false ≡ true = ap is_some (sym (cause.not_found refl)) ∙ there in
    absurd cc

pub io_counted : (f : IoFault) (refusal : DiskRefusal) (refusals : ℕ) → io_error f ≡ Io refusal → counted {T = Unit {0}} (Err f) refusals ≡ min (refusals + 1) (2 ^ 64 - 1)
io_counted fault.Refused told count is = refl
io_counted fault.NoSpace told count is = refl
io_counted fault.NotFound told count is = absurd cc
io_counted fault.Memory told count is = absurd cc
