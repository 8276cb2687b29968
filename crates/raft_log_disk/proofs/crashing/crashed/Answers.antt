use Rattle.std.proofs.Common.{◌≡◌, length, arith, ap}
use Rattle.raft_log_disk.specs.Changes.{undone}
use Rattle.raft_log_disk.proofs.RecoverableLemmas.{whole_is_recoverable}
use Rattle.raft_log_disk.proofs.EndLemmas.{not_given}
use Rattle.raft_log_disk.proofs.crashing.crashed.Goals as goal

pub invariant_of-result : goal.invariant_of-result
invariant_of-result c =
    let long : c.len-len.result ≡ length c.in_ok-bytes.bytes.items = omega (arith, c.len-len.ensures) in
    record { recoverable = whole_is_recoverable _ (ap (λ cs. undone cs c.in_ok-bytes.bytes.items) c.new.ensures.items) long long c.in_ok-bytes.ensures.fits }

pub returns-in_err-kept : goal.returns-in_err-kept
returns-in_err-kept c = record { path = not_given _ _ c.from_residual.result c.from_residual.ensures.1; number = not_given _ _ c.from_residual.result c.from_residual.ensures.1; state = not_given _ _ c.from_residual.result c.from_residual.ensures.1 }

pub returns-in_err-bytes : goal.returns-in_err-bytes
returns-in_err-bytes c = record { path = not_given _ _ c.from_residual-in_err-bytes.result c.from_residual-in_err-bytes.ensures.1; number = not_given _ _ c.from_residual-in_err-bytes.result c.from_residual-in_err-bytes.ensures.1; state = not_given _ _ c.from_residual-in_err-bytes.result c.from_residual-in_err-bytes.ensures.1 }

pub returns-in_err-copy_writes : goal.returns-in_err-copy_writes
returns-in_err-copy_writes c = record { path = not_given _ _ c.from_residual-in_err-copy_writes.result c.from_residual-in_err-copy_writes.ensures.1; number = not_given _ _ c.from_residual-in_err-copy_writes.result c.from_residual-in_err-copy_writes.ensures.1; state = not_given _ _ c.from_residual-in_err-copy_writes.result c.from_residual-in_err-copy_writes.ensures.1 }

pub returns-in_err-copy_writes-2 : goal.returns-in_err-copy_writes-2
returns-in_err-copy_writes-2 c = record { path = not_given _ _ c.from_residual-in_err-copy_writes-2.result c.from_residual-in_err-copy_writes-2.ensures.1; number = not_given _ _ c.from_residual-in_err-copy_writes-2.result c.from_residual-in_err-copy_writes-2.ensures.1; state = not_given _ _ c.from_residual-in_err-copy_writes-2.result c.from_residual-in_err-copy_writes-2.ensures.1 }

pub returns-in_err-brought : goal.returns-in_err-brought
returns-in_err-brought c = record { path = not_given _ _ c.from_residual-in_err-brought.result c.from_residual-in_err-brought.ensures.1; number = not_given _ _ c.from_residual-in_err-brought.result c.from_residual-in_err-brought.ensures.1; state = not_given _ _ c.from_residual-in_err-brought.result c.from_residual-in_err-brought.ensures.1 }

pub returns-in_err-path : goal.returns-in_err-path
returns-in_err-path c = record { path = not_given _ _ c.from_residual-in_err-path.result c.from_residual-in_err-path.ensures.1; number = not_given _ _ c.from_residual-in_err-path.result c.from_residual-in_err-path.ensures.1; state = not_given _ _ c.from_residual-in_err-path.result c.from_residual-in_err-path.ensures.1 }
