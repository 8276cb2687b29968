-- What an early end owes: nothing of what it would have given.
use Rattle.std.proofs.Common.{◌≡◌, Result, IsErrAnd}
use Rattle.std.specs.Prelude.{IfOk, OnOk}
use Rattle.std.proofs.lemmas.Result.{err_from_is_err_and}
use Rattle.raft_log_disk.specs.Cause.{IsTaken}
use Rattle.raft_log_disk.specs.declared.fault.IoFault.{IoFault}
use Rattle.raft_log_disk.specs.declared.fault.IoFault.TheVariants.{Memory}

pub not_ok : {T E : Type 0} (Q : E → Type 0) (P : Type 0) (r : Result T E) → IsErrAnd r Q → OnOk r P
not_ok Q P r is = let p = err_from_is_err_and r is in rw p.1 tt

pub not_given : {T E : Type 0} (Q : E → Type 0) (P : T → Type 0) (r : Result T E) → IsErrAnd r Q → IfOk r P
not_given Q P r is = let p = err_from_is_err_and r is in rw p.1 tt

-- memory may always be missing
pub for_memory : {T : Type 0} (absent barred : Type 0) (r : Result T IoFault) → IsErrAnd r (λ x. x ≡ Memory) → IsTaken absent barred r
for_memory absent barred r is = let p = err_from_is_err_and r is in rw (p.1, p.2) tt
