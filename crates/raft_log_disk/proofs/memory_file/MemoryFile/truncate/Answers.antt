use Rattle.std.proofs.Common.{◌≡◌, ◌-◌, ◌++◌, min, max, length, take, drop, arith, refl, ap, ◌∙◌, vec_len, sym, subst}
use Rattle.std.specs.Prelude.{replicate}
use Rattle.std.proofs.lemmas.List.{take_all, length-drop}
use Rattle.raft_log_disk.proofs.ByteLemmas.{cut_back}
use Rattle.raft_log_disk.proofs.MemoryLemmas.{truncate_noted}
use Rattle.raft_log_disk.specs.Image.{IsRecoverable}
use Rattle.raft_log_disk.specs.Memory.{state_of}
use Rattle.raft_log_disk.proofs.RecoverableLemmas.{truncated_is_recoverable}
use Rattle.raft_log_disk.proofs.CauseLemmas.{at_err}
use Rattle.raft_log_disk.proofs.EndLemmas.{not_ok}
use Rattle.raft_log_disk.proofs.MemoryLemmas.{unnoted}
use Rattle.raft_log_disk.proofs.memory_file.MemoryFile.truncate.Goals as goal

pub returns-clause-ok : goal.returns-clause-ok
returns-clause-ok c =
    let old = c.args.self.now.bytes.items in
    let long : c.len-old.result ≡ length c.args.self.now.bytes.items = omega (arith, c.len-old.ensures) in
    let capacity : vec_len c.args.self.now.bytes ≡ length c.args.self.now.bytes.items = omega arith in
    let from : c.min-from.result ≡ min c.args.len (length c.args.self.now.bytes.items) = omega (arith, c.min-from.ensures) in
    let to : c.max.result ≡ max c.args.len (length c.args.self.now.bytes.items) = omega (arith, c.max.ensures) in
    let whole : c.deref.result.now ≡ c.args.self.now.bytes.items = c.deref.ensures.value in
    let cut : c.in_ok-replaced.replaced.items ≡ drop c.min-from.result c.args.self.now.bytes.items =
    c.in_ok-replaced.ensures.items ∙ take_all _ _ (omega (arith, length-drop c.min-from.result c.deref.result.now)) ∙ ap (drop c.min-from.result) whole in
    truncate_noted c.args.self.now _ _ _ _ _ _ _ c.in_ok-push.ensures.items from to
    (cut_back old c.in_ok-replaced.replaced.items c.args.len c.min-from.result c.len-old.result from cut long)
    c.min-self.ensures c.max-self.ensures (c.in-Ok.ensures.items ∙ ap (λ n. take c.args.len old ++ replicate (c.args.len - n) 0) capacity)

pub invariant_of-self-2 : goal.invariant_of-self-2
invariant_of-self-2 c =
    let old = c.args.self.now.bytes.items in
    let long : c.len-old.result ≡ length c.args.self.now.bytes.items = omega (arith, c.len-old.ensures) in
    let capacity : vec_len c.args.self.now.bytes ≡ length c.args.self.now.bytes.items = omega arith in
    let from : c.min-from.result ≡ min c.args.len (length c.args.self.now.bytes.items) = omega (arith, c.min-from.ensures) in
    let to : c.max.result ≡ max c.args.len (length c.args.self.now.bytes.items) = omega (arith, c.max.ensures) in
    let whole : c.deref.result.now ≡ c.args.self.now.bytes.items = c.deref.ensures.value in
    let cut : c.in_ok-replaced.replaced.items ≡ drop c.min-from.result c.args.self.now.bytes.items =
    c.in_ok-replaced.ensures.items ∙ take_all _ _ (omega (arith, length-drop c.min-from.result c.deref.result.now)) ∙ ap (drop c.min-from.result) whole in
    let noted =
    truncate_noted c.args.self.now _ _ _ _ _ _ _ c.in_ok-push.ensures.items from to
    (cut_back old c.in_ok-replaced.replaced.items c.args.len c.min-from.result c.len-old.result from cut long)
    c.min-self.ensures c.max-self.ensures (c.in-Ok.ensures.items ∙ ap (λ n. take c.args.len old ++ replicate (c.args.len - n) 0) capacity) in
    record { recoverable = subst IsRecoverable (sym noted) (truncated_is_recoverable (state_of c.args.self.now) c.args.len c.args.self.now.recoverable) }

pub returns-in_err-replaced : goal.returns-in_err-replaced
returns-in_err-replaced c = record { path = refl; number = refl; ok = not_ok _ _ c.from_residual.result c.from_residual.ensures.1; err = at_err c.from_residual.result _ refl }

pub returns-in_err-push : goal.returns-in_err-push
returns-in_err-push c = record { path = refl; number = refl; ok = not_ok _ _ c.from_residual-in_err-push.result c.from_residual-in_err-push.ensures.1; err = at_err c.from_residual-in_err-push.result _ (unnoted c.args.self.now _ c.args.self.now.later.items c.in_err-push.ensures.items refl) }

pub returns-in_default-clause-path : goal.returns-in_default-clause-path
returns-in_default-clause-path c = refl

pub returns-in_default-clause-number : goal.returns-in_default-clause-number
returns-in_default-clause-number c = refl

pub returns-in_default-clause-ok : goal.returns-in_default-clause-ok
returns-in_default-clause-ok c = tt

pub returns-clause-path : goal.returns-clause-path
returns-clause-path c = refl

pub returns-clause-number : goal.returns-clause-number
returns-clause-number c = refl

pub returns-clause-err : goal.returns-clause-err
returns-clause-err c = tt
