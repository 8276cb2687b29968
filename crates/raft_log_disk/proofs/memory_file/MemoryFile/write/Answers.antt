use Rattle.std.proofs.Common.{◌≡◌, ◌+◌, min, max, length, arith, refl, ap, ◌∙◌, sym, subst}
use Rattle.std.specs.List.{slice_range}
use Rattle.raft_log_disk.proofs.ByteLemmas.{put_back}
use Rattle.raft_log_disk.proofs.MemoryLemmas.{write_noted}
use Rattle.raft_log_disk.specs.Image.{IsRecoverable}
use Rattle.raft_log_disk.specs.Memory.{state_of}
use Rattle.raft_log_disk.proofs.RecoverableLemmas.{written_is_recoverable, bytes_by_each}
use Rattle.raft_log_disk.proofs.CauseLemmas.{at_err}
use Rattle.raft_log_disk.proofs.EndLemmas.{not_ok}
use Rattle.raft_log_disk.proofs.MemoryLemmas.{unnoted}
use Rattle.raft_log_disk.proofs.memory_file.MemoryFile.write.Goals as goal

pub returns-clause-ok : goal.returns-clause-ok
returns-clause-ok c =
    let long : c.len-len.result ≡ length c.args.self.now.bytes.items = omega (arith, c.len-len.ensures) in
    let grew : c.max-self.result ≡ max c.args.self.now.greatest (c.args.at + length c.args.bytes.now) = omega (arith, c.max-self.ensures) in
    let replaced = c.in_ok-replaced.ensures ∙ ap (λ l. slice_range l c.args.at c.min.result) c.deref.ensures.value in
    let short : c.min.result ≡ min (c.args.at + length c.args.bytes.now) c.len-len.result = omega (arith, c.min.ensures) in
    write_noted c.args.self.now _ _ _ _ _ _ _ _ _ c.in-Ok.ensures.changes c.in-Ok.ensures.writes refl refl
    (put_back c.args.self.now.bytes.items c.args.bytes.now c.in_ok-replaced.replaced.items c.args.at (c.args.at + length c.args.bytes.now) c.len-len.result c.requires.at long refl (replaced ∙ ap (λ n. slice_range c.args.self.now.bytes.items c.args.at n) short))
    refl c.in_ok-written.ensures.items grew c.in-Ok-overwrite.ensures

pub invariant_of-self-2 : goal.invariant_of-self-2
invariant_of-self-2 c =
    let long : c.len-len.result ≡ length c.args.self.now.bytes.items = omega (arith, c.len-len.ensures) in
    let grew : c.max-self.result ≡ max c.args.self.now.greatest (c.args.at + length c.args.bytes.now) = omega (arith, c.max-self.ensures) in
    let replaced = c.in_ok-replaced.ensures ∙ ap (λ l. slice_range l c.args.at c.min.result) c.deref.ensures.value in
    let short : c.min.result ≡ min (c.args.at + length c.args.bytes.now) c.len-len.result = omega (arith, c.min.ensures) in
    let noted =
    write_noted c.args.self.now _ _ _ _ _ _ _ _ _ c.in-Ok.ensures.changes c.in-Ok.ensures.writes refl refl
    (put_back c.args.self.now.bytes.items c.args.bytes.now c.in_ok-replaced.replaced.items c.args.at (c.args.at + length c.args.bytes.now) c.len-len.result c.requires.at long refl (replaced ∙ ap (λ n. slice_range c.args.self.now.bytes.items c.args.at n) short))
    refl c.in_ok-written.ensures.items grew c.in-Ok-overwrite.ensures in
    record { recoverable = subst IsRecoverable (sym noted) (written_is_recoverable (state_of c.args.self.now) c.args.at c.args.bytes.now c.requires.at (bytes_by_each c.args.bytes.now (λ i lt. omega (arith, c.type_inv.bytes i))) c.args.self.now.recoverable) }

pub invariant_of-self : goal.invariant_of-self
invariant_of-self c = record { recoverable = c.args.self.now.recoverable }

pub invariant_of-self-in-Break-branch-2 : goal.invariant_of-self-in-Break-branch-2
invariant_of-self-in-Break-branch-2 c = record { recoverable = c.args.self.now.recoverable }

pub returns-in_err-replaced : goal.returns-in_err-replaced
returns-in_err-replaced c = record { path = refl; number = refl; ok = not_ok _ _ c.from_residual.result c.from_residual.ensures.1; err = at_err c.from_residual.result _ refl }

pub returns-in_err-written : goal.returns-in_err-written
returns-in_err-written c = record { path = refl; number = refl; ok = not_ok _ _ c.from_residual-in_err-written.result c.from_residual-in_err-written.ensures.1; err = at_err c.from_residual-in_err-written.result _ refl }

pub returns-in_default : goal.returns-in_default
returns-in_default c = record { path = refl; number = refl; ok = tt; err = unnoted c.args.self.now _ _ c.in_default.ensures.changes c.in_default.ensures.writes }

pub returns-in_default-overwrite-clause-path : goal.returns-in_default-overwrite-clause-path
returns-in_default-overwrite-clause-path c = refl

pub returns-in_default-overwrite-clause-number : goal.returns-in_default-overwrite-clause-number
returns-in_default-overwrite-clause-number c = refl

pub returns-in_default-overwrite-clause-ok : goal.returns-in_default-overwrite-clause-ok
returns-in_default-overwrite-clause-ok c = tt

pub returns-clause-path : goal.returns-clause-path
returns-clause-path c = refl

pub returns-clause-number : goal.returns-clause-number
returns-clause-number c = refl

pub returns-clause-err : goal.returns-clause-err
returns-clause-err c = tt
