use Rattle.std.proofs.Common.{◌≡◌, min, max, length, arith, refl, sym, subst}
use Rattle.raft_log_disk.proofs.ByteLemmas.{nothing_put}
use Rattle.raft_log_disk.proofs.MemoryLemmas.{truncate_noted}
use Rattle.raft_log_disk.specs.Image.{IsRecoverable}
use Rattle.raft_log_disk.specs.Memory.{state_of}
use Rattle.raft_log_disk.proofs.RecoverableLemmas.{refused_truncate_is_recoverable}
use Rattle.raft_log_disk.proofs.CauseLemmas.{at_err}
use Rattle.raft_log_disk.proofs.EndLemmas.{not_ok}
use Rattle.raft_log_disk.proofs.MemoryLemmas.{unnoted}
use Rattle.raft_log_disk.proofs.memory_file.MemoryFile.refuse_truncate.Goals as goal

pub returns-clause-ok : goal.returns-clause-ok
returns-clause-ok c =
    let long : c.len-old.result ≡ length c.args.self.now.bytes.items = omega (arith, c.len-old.ensures) in
    let from : c.min.result ≡ min c.args.len (length c.args.self.now.bytes.items) = omega (arith, c.min.ensures) in
    let to : c.max.result ≡ max c.args.len (length c.args.self.now.bytes.items) = omega (arith, c.max.ensures) in
    truncate_noted c.args.self.now _ _ _ _ _ _ _ c.in_ok-push.ensures.items from to (nothing_put _ _ _ _ c.new-replaced.ensures.items long) c.min-self.ensures c.max-self.ensures refl

pub invariant_of-self-2 : goal.invariant_of-self-2
invariant_of-self-2 c =
    let long : c.len-old.result ≡ length c.args.self.now.bytes.items = omega (arith, c.len-old.ensures) in
    let from : c.min.result ≡ min c.args.len (length c.args.self.now.bytes.items) = omega (arith, c.min.ensures) in
    let to : c.max.result ≡ max c.args.len (length c.args.self.now.bytes.items) = omega (arith, c.max.ensures) in
    let noted =
    truncate_noted c.args.self.now _ _ _ _ _ _ _ c.in_ok-push.ensures.items from to (nothing_put _ _ _ _ c.new-replaced.ensures.items long) c.min-self.ensures c.max-self.ensures refl in
    record { recoverable = subst IsRecoverable (sym noted) (refused_truncate_is_recoverable (state_of c.args.self.now) c.args.len c.args.self.now.recoverable) }

pub returns-in_err-push : goal.returns-in_err-push
returns-in_err-push c = record { path = refl; number = refl; ok = not_ok _ _ c.from_residual.result c.from_residual.ensures.1; err = at_err c.from_residual.result _ (unnoted c.args.self.now _ c.args.self.now.later.items c.in_err-push.ensures.items refl) }

pub returns-clause-path : goal.returns-clause-path
returns-clause-path c = refl

pub returns-clause-number : goal.returns-clause-number
returns-clause-number c = refl

pub returns-clause-err : goal.returns-clause-err
returns-clause-err c = tt
