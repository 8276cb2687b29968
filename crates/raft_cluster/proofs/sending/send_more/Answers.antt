use Rattle.std.proofs.Common.{◌≡◌, ◌∷◌, [], ◌++◌, length, ap, ◌∙◌, append_assoc, arith}
use Rattle.std.specs.Vec.Iter.{into_iter_items}
use Rattle.raft_sent_frames.specs.Frames.{frames_of}
use Rattle.raft_cluster.proofs.SendingLemmas.{sends_more}
use Rattle.raft_cluster.proofs.sending.send_more.Goals as goal

pub loop-outcome-preserved : goal.loop-outcome-preserved
loop-outcome-preserved c =
    let at = c.loop-outcome in
    let x = c.in-Some.outcome in
    let steps : into_iter_items at.outcome-iterator ≡ x ∷ into_iter_items c.next.new.self = c.in-Some.ensures.steps.0 in
    let pushed : c.push.new.self.items ≡ at.done.items ++ c.in-Ok.part ∷ [] = (rw c.unwrap.ensures at c.push.ensures.items) ∙ ap (λ l. l ++ c.in-Ok.part ∷ []) c.reserve.ensures.items in (
      append_assoc at.yielded (x ∷ []) _ ∙ rw (← steps) at.invariant.0,
      let was = at.invariant.1 in
          let gone = c.in-Some.ensures.steps.1 in
          let short = ap length steps in
          omega arith,
      sends_more (frames_of c.args.sent.now) c.args.sender at.yielded x at.done.items (frames_of at.sent) c.in-Ok.part _ _ at.invariant.2 c.in-Ok.ensures.part c.in-Ok.ensures.sends pushed,
    )
