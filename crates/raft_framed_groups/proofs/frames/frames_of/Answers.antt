-- Each frame goes behind the others; the first message that isn't framed is one of them.
use Rattle.std.proofs.Common.{◌≡◌, ◌∷◌, [], ◌++◌, cond, length, sym, ap, subst, ◌∙◌, append_assoc, append-nil, arith}
use Rattle.std.specs.List.{AllZip}
use Rattle.std.proofs.lemmas.List.{nil_from_length}
use Rattle.std.specs.Vec.Iter.{into_iter_items}
use Rattle.raft_framed_groups.specs.Frames.{IsFramed}
use Rattle.raft_framed_groups.proofs.FramedLemmas.{zip_push}
use Rattle.raft_framed_groups.proofs.frames.frames_of.Goals as goal

pub loop-message-preserved : goal.loop-message-preserved
loop-message-preserved c =
    let at = c.loop-message in
    let x = c.in-Some.message in
    let steps : into_iter_items at.message-iterator ≡ x ∷ into_iter_items c.next.new.self = c.in-Some.ensures.steps.0 in
    let pushed : c.push.new.self.items ≡ at.sent.items ++ c.in-Ok.frame ∷ [] = c.push.ensures.items ∙ ap (λ b. cond b (at.sent.items ++ c.in-Ok.frame ∷ []) at.sent.items) c.if-is_err.ensures.negation in (
      append_assoc at.yielded (x ∷ []) _ ∙ rw (← steps) at.invariant.0,
      let was = at.invariant.1 in
          let gone = c.in-Some.ensures.steps.1 in
          let short = ap length steps in
          omega arith,
      subst (AllZip (IsFramed c.args.group) (at.yielded ++ x ∷ [])) (sym pushed)
          (zip_push (IsFramed c.args.group) at.yielded at.sent.items x c.in-Ok.frame at.invariant.2 c.in-Ok.ensures.ok),
    )

pub returns-clause-ok : goal.returns-clause-ok
returns-clause-ok c =
    let at = c.loop-message in
    let none = c.in-None.ensures.steps in
    let empty : into_iter_items at.message-iterator ≡ [] = nil_from_length _ (sym at.invariant.1 ∙ none.0) in
    let all = sym (append-nil at.yielded) ∙ rw empty at at.invariant.0 ∙ c.into_iter-message-iterator.ensures.into_iter_gives.0 in
    subst (λ ms. AllZip (IsFramed c.args.group) ms at.sent.items) all at.invariant.2
