use Rattle.std.proofs.Common.{◌≡◌, ◌+◌, ◌-◌, ◌++◌, max, length, take, arith, refl, ap, ◌∙◌, vec_len, sym, subst}
use Rattle.std.specs.Prelude.{replicate}
use Rattle.raft_log_disk.proofs.ByteLemmas.{filled_back, filled_by}
use Rattle.raft_log_disk.proofs.MemoryLemmas.{allocate_noted}
use Rattle.raft_log_disk.specs.Image.{IsRecoverable}
use Rattle.raft_log_disk.specs.Memory.{state_of}
use Rattle.raft_log_disk.proofs.RecoverableLemmas.{allocated_is_recoverable}
use Rattle.raft_log_disk.proofs.CauseLemmas.{at_err}
use Rattle.raft_log_disk.proofs.EndLemmas.{not_ok}
use Rattle.raft_log_disk.proofs.MemoryLemmas.{unnoted}
use Rattle.raft_log_disk.proofs.memory_file.MemoryFile.allocate.Goals as goal

pub returns-clause-ok : goal.returns-clause-ok
returns-clause-ok c =
    let old = c.args.self.now.bytes.items in
    let long : c.len-old.result ≡ length c.args.self.now.bytes.items = omega (arith, c.len-old.ensures) in
    let capacity : vec_len c.args.self.now.bytes ≡ length c.args.self.now.bytes.items = omega arith in
    let longest : c.max.result ≡ max (c.args.at + c.args.len) (length c.args.self.now.bytes.items) = omega (arith, c.max.ensures) in
    allocate_noted c.args.self.now _ _ _ _ _ _ _ c.in_ok-push.ensures.items refl refl
    (filled_back old c.new-replaced.result.items c.args.at (c.args.at + c.args.len) c.len-old.result c.new-replaced.ensures.items long)
    c.max-self.ensures (c.in-Ok.ensures.items ∙ ap (λ n. take c.max.result old ++ replicate (c.max.result - n) 0) capacity ∙ filled_by old (c.args.at + c.args.len) c.max.result longest)

pub invariant_of-self-2 : goal.invariant_of-self-2
invariant_of-self-2 c =
    let old = c.args.self.now.bytes.items in
    let long : c.len-old.result ≡ length c.args.self.now.bytes.items = omega (arith, c.len-old.ensures) in
    let capacity : vec_len c.args.self.now.bytes ≡ length c.args.self.now.bytes.items = omega arith in
    let longest : c.max.result ≡ max (c.args.at + c.args.len) (length c.args.self.now.bytes.items) = omega (arith, c.max.ensures) in
    let noted =
    allocate_noted c.args.self.now _ _ _ _ _ _ _ c.in_ok-push.ensures.items refl refl
    (filled_back old c.new-replaced.result.items c.args.at (c.args.at + c.args.len) c.len-old.result c.new-replaced.ensures.items long)
    c.max-self.ensures (c.in-Ok.ensures.items ∙ ap (λ n. take c.max.result old ++ replicate (c.max.result - n) 0) capacity ∙ filled_by old (c.args.at + c.args.len) c.max.result longest) in
    record { recoverable = subst IsRecoverable (sym noted) (allocated_is_recoverable (state_of c.args.self.now) c.args.at c.args.len c.requires.at c.args.self.now.recoverable) }

pub returns-in_err-push : goal.returns-in_err-push
returns-in_err-push c = record { path = refl; number = refl; ok = not_ok _ _ c.from_residual.result c.from_residual.ensures.1; err = at_err c.from_residual.result _ (unnoted c.args.self.now _ c.args.self.now.later.items c.in_err-push.ensures.items refl) }

pub returns-in_default-clause-path : goal.returns-in_default-clause-path
returns-in_default-clause-path c = refl

pub returns-in_default-clause-number : goal.returns-in_default-clause-number
returns-in_default-clause-number c = refl

pub returns-in_default-clause-ok : goal.returns-in_default-clause-ok
returns-in_default-clause-ok c = tt

pub returns-clause-path : goal.returns-clause-path
returns-clause-path c = refl

pub returns-clause-number : goal.returns-clause-number
returns-clause-number c = refl

pub returns-clause-err : goal.returns-clause-err
returns-clause-err c = tt
