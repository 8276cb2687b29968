-- Each frame goes behind the others, and so does its number.
use Rattle.std.proofs.Common.{rules, ◌≡◌, ◌∷◌, [], ◌++◌, length, sym, ap, ◌∙◌, append_assoc, append-nil, arith}
use Rattle.std.proofs.lemmas.List.{nil_from_length}
use Rattle.std.specs.Vec.Iter.{into_iter_items}
use Rattle.raft_sent_frames.specs.Frames.{HasFront, numbers_from, sent_by}
use Rattle.raft_sent_frames.proofs.FrameLemmas.{list_more, numbers_more, length_sent}
use Rattle.raft_sent_frames.proofs.sending.push_all.Goals as goal

pub returns-in_err-push-clause-front : goal.returns-in_err-push-clause-front
returns-in_err-push-clause-front c = let front : HasFront c.args.list.now c.loop-peer.list = (sent_by c.args.sender c.loop-peer.yielded, c.loop-peer.invariant.2) in search (rules, front)

pub returns-in_err-push-2-clause-front : goal.returns-in_err-push-2-clause-front
returns-in_err-push-2-clause-front c = let front : HasFront c.args.list.now c.push-in-loop-peer.new.self = (sent_by c.args.sender c.loop-peer.yielded, c.in_err-push-2.ensures.err ∙ c.loop-peer.invariant.2) in search (rules, front)

pub loop-peer-preserved : goal.loop-peer-preserved
loop-peer-preserved c =
    let at = c.loop-peer in
    let x = c.in-Some.field-0 in
    let steps : into_iter_items at.peer-iterator ≡ x ∷ into_iter_items c.next.new.self = c.in-Some.ensures.steps.0 in (
      append_assoc at.yielded (x ∷ []) _ ∙ rw (← steps) at.invariant.0,
      let was = at.invariant.1 in
          let gone = c.in-Some.ensures.steps.1 in
          let short = ap length steps in
          omega arith,
      list_more c.args.sender _ _ _ at.yielded x at.invariant.2 c.in_ok-push-2.ensures.ok,
      numbers_more _ _ _ _ at.yielded x _ at.invariant.3 (c.len-number.ensures ∙ length_sent c.args.sender _ _ at.yielded at.invariant.2) c.in_ok-push.ensures.ok,
    )

pub returns-clause-list : goal.returns-clause-list
returns-clause-list c =
    let at = c.loop-peer in
    let none = c.in-None.ensures.steps in
    let empty : into_iter_items at.peer-iterator ≡ [] = nil_from_length _ (sym at.invariant.1 ∙ none.0) in
    let all = sym (append-nil at.yielded) ∙ rw empty at at.invariant.0 ∙ c.into_iter-peer-iterator.ensures.into_iter_gives.0 ∙ c.into_vec-peer-items.ensures in
    at.invariant.2 ∙ ap (λ ys. c.args.list.now ++ sent_by c.args.sender ys) all

pub returns-clause-numbers : goal.returns-clause-numbers
returns-clause-numbers c =
    let at = c.loop-peer in
    let none = c.in-None.ensures.steps in
    let empty : into_iter_items at.peer-iterator ≡ [] = nil_from_length _ (sym at.invariant.1 ∙ none.0) in
    let all = sym (append-nil at.yielded) ∙ rw empty at at.invariant.0 ∙ c.into_iter-peer-iterator.ensures.into_iter_gives.0 ∙ c.into_vec-peer-items.ensures in
    at.invariant.3 ∙ ap (λ ys. c.args.numbers.now ++ numbers_from (length c.args.list.now) ys) all
