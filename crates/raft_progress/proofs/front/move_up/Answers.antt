use Rattle.std.proofs.Common.{◌≡◌, ℕ, ◌≤◌, ◌-◌, ◌∙◌, sym, ap, subst, refl, take, get_or, arith}
use Rattle.std.proofs.lemmas.List.Sorted.{IsPermutation-trans}
use Rattle.raft_progress.specs.Granted.{IsFallingBut, IsFalling}
use Rattle.raft_progress.proofs.FallingLemmas.{step_up, step_rests, falling_first, take-swap, at-swap}
use Rattle.raft_progress.proofs.front.move_up.Goals as goal

pub loop-at-preserved : goal.loop-at-preserved
loop-at-preserved g c = record {
  place = omega arith;
  moved = IsPermutation-trans c.args.voters.now c.loop-at.voters c.swap.new.self c.loop-at.invariant.moved c.swap.ensures.permutation;
  front = λ k h.
      ap (take k) c.swap.ensures.after
      ∙ take-swap c.loop-at.voters (c.loop-at.at - 1) c.loop-at.at k (omega arith) (omega arith) h
      ∙ c.loop-at.invariant.front k (omega arith);
  entry = λ d.
      ap (λ l. get_or l (c.loop-at.at - 1) d) c.swap.ensures.after
      ∙ at-swap c.loop-at.voters (c.loop-at.at - 1) c.loop-at.at d (omega arith) (omega arith)
      ∙ c.loop-at.invariant.entry d;
  falling = λ f.
      subst (IsFallingBut g.P.Ord.cmp g.V.Borrow.borrowed (c.loop-at.at - 1)) (sym c.swap.ensures.after)
      (step_up g.met.P.Ord.total g.V.Borrow.borrowed c.rises_at.result c.loop-at.voters (c.loop-at.at - 1) c.loop-at.at (omega arith) refl (omega arith)
      c.rises_at.ensures c.if-rises_at.true (c.loop-at.invariant.falling f));
}

pub returns-else-rises_at-clause-falling : goal.returns-else-rises_at-clause-falling
returns-else-rises_at-clause-falling g c f =
    step_rests g.met.P.Ord.total g.V.Borrow.borrowed c.rises_at.result c.loop-at.voters (c.loop-at.at - 1) c.loop-at.at (omega arith) refl (omega arith)
    c.rises_at.ensures c.if-rises_at.false (c.loop-at.invariant.falling f)

pub returns-after-loop-at-clause-falling : goal.returns-after-loop-at-clause-falling
returns-after-loop-at-clause-falling g c f =
    falling_first g.met.P.Ord.total g.V.Borrow.borrowed c.loop-at.voters
    (subst (λ k. IsFallingBut g.P.Ord.cmp g.V.Borrow.borrowed k c.loop-at.voters) (omega arith) (c.loop-at.invariant.falling f))
