use Rattle.std.proofs.Common.{◌≡◌, length, arith, refl, sym, subst}
use Rattle.raft_log_disk.proofs.ByteLemmas.{nothing_put}
use Rattle.raft_log_disk.proofs.MemoryLemmas.{allocate_noted}
use Rattle.raft_log_disk.specs.Image.{IsRecoverable}
use Rattle.raft_log_disk.specs.Memory.{state_of}
use Rattle.raft_log_disk.proofs.RecoverableLemmas.{refused_allocate_is_recoverable}
use Rattle.raft_log_disk.proofs.CauseLemmas.{at_err}
use Rattle.raft_log_disk.proofs.EndLemmas.{not_ok}
use Rattle.raft_log_disk.proofs.MemoryLemmas.{unnoted}
use Rattle.raft_log_disk.proofs.memory_file.MemoryFile.refuse_allocate.Goals as goal

pub returns-clause-ok : goal.returns-clause-ok
returns-clause-ok c =
    let long : c.len-old.result ≡ length c.args.self.now.bytes.items = omega (arith, c.len-old.ensures) in
    allocate_noted c.args.self.now _ _ _ _ _ _ _ c.in_ok-push.ensures.items refl refl (nothing_put _ _ _ _ c.new-replaced.ensures.items long) c.max-self.ensures refl

pub invariant_of-self-2 : goal.invariant_of-self-2
invariant_of-self-2 c =
    let long : c.len-old.result ≡ length c.args.self.now.bytes.items = omega (arith, c.len-old.ensures) in
    let noted =
    allocate_noted c.args.self.now _ _ _ _ _ _ _ c.in_ok-push.ensures.items refl refl (nothing_put _ _ _ _ c.new-replaced.ensures.items long) c.max-self.ensures refl in
    record { recoverable = subst IsRecoverable (sym noted) (refused_allocate_is_recoverable (state_of c.args.self.now) c.args.at c.args.len c.args.self.now.recoverable) }

pub returns-in_err-push : goal.returns-in_err-push
returns-in_err-push c = record { path = refl; number = refl; ok = not_ok _ _ c.from_residual.result c.from_residual.ensures.1; err = at_err c.from_residual.result _ (unnoted c.args.self.now _ c.args.self.now.later.items c.in_err-push.ensures.items refl) }

pub returns-clause-path : goal.returns-clause-path
returns-clause-path c = refl

pub returns-clause-number : goal.returns-clause-number
returns-clause-number c = refl

pub returns-clause-err : goal.returns-clause-err
returns-clause-err c = tt
