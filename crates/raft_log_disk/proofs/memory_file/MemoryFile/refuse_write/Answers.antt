use Rattle.std.proofs.Common.{◌≡◌, ◌+◌, max, length, arith, refl, sym, subst}
use Rattle.raft_log_disk.proofs.ByteLemmas.{nothing_put}
use Rattle.raft_log_disk.proofs.MemoryLemmas.{write_noted}
use Rattle.raft_log_disk.specs.Image.{IsRecoverable}
use Rattle.raft_log_disk.specs.Memory.{state_of}
use Rattle.raft_log_disk.proofs.RecoverableLemmas.{refused_write_is_recoverable}
use Rattle.raft_log_disk.proofs.CauseLemmas.{at_err}
use Rattle.raft_log_disk.proofs.EndLemmas.{not_ok}
use Rattle.raft_log_disk.proofs.MemoryLemmas.{unnoted}
use Rattle.raft_log_disk.proofs.memory_file.MemoryFile.refuse_write.Goals as goal

pub returns-clause-ok : goal.returns-clause-ok
returns-clause-ok c =
    let long : c.len-len.result ≡ length c.args.self.now.bytes.items = omega (arith, c.len-len.ensures) in
    let grew : c.max-self.result ≡ max c.args.self.now.greatest (c.args.at + length c.args.bytes.now) = omega (arith, c.max-self.ensures) in
    write_noted c.args.self.now _ _ _ _ _ _ _ _ _ c.in-Ok.ensures.changes c.in-Ok.ensures.writes refl refl
    (nothing_put _ _ _ _ c.new-replaced.ensures.items long)
    refl c.in_ok-written.ensures.items grew refl

pub invariant_of-self-2 : goal.invariant_of-self-2
invariant_of-self-2 c =
    let long : c.len-len.result ≡ length c.args.self.now.bytes.items = omega (arith, c.len-len.ensures) in
    let grew : c.max-self.result ≡ max c.args.self.now.greatest (c.args.at + length c.args.bytes.now) = omega (arith, c.max-self.ensures) in
    let noted =
    write_noted c.args.self.now _ _ _ _ _ _ _ _ _ c.in-Ok.ensures.changes c.in-Ok.ensures.writes refl refl
    (nothing_put _ _ _ _ c.new-replaced.ensures.items long)
    refl c.in_ok-written.ensures.items grew refl in
    record { recoverable = subst IsRecoverable (sym noted) (refused_write_is_recoverable (state_of c.args.self.now) c.args.at c.args.bytes.now c.args.self.now.recoverable) }

pub returns-in_err-written : goal.returns-in_err-written
returns-in_err-written c = record { path = refl; number = refl; ok = not_ok _ _ c.from_residual.result c.from_residual.ensures.1; err = at_err c.from_residual.result _ refl }

pub returns-in_default : goal.returns-in_default
returns-in_default c = record { path = refl; number = refl; ok = tt; err = unnoted c.args.self.now _ _ c.in_default.ensures.changes c.in_default.ensures.writes }

pub returns-clause-path : goal.returns-clause-path
returns-clause-path c = refl

pub returns-clause-number : goal.returns-clause-number
returns-clause-number c = refl

pub returns-clause-err : goal.returns-clause-err
returns-clause-err c = tt
