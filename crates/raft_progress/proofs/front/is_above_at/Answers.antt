-- The entry at the index is compared, whatever stands for one past the end.
use Rattle.std.proofs.Common.{◌≡◌, ◌<◌, ◌∙◌, sym, ap, arith, length, get_or}
use Rattle.std.specs.Ordering.{is_lt}
use Rattle.raft_progress.proofs.FallingLemmas.{at_any}
use Rattle.raft_progress.proofs.front.is_above_at.Goals as goal

pub returns-then-at-voters-clause-above : goal.returns-then-at-voters-clause-above
returns-then-at-voters-clause-above g c = λ no. cc no

pub returns-then-at-voters-clause-rests : goal.returns-then-at-voters-clause-rests
returns-then-at-voters-clause-rests g c = λ rests x within. absurd (omega (arith, c.if-at-voters.true))

pub returns-clause-above : goal.returns-clause-above
returns-clause-above g c = λ above.
    let within : c.args.at < length c.args.voters.now = omega (arith, c.requires, c.if-at-voters.false) in (
      within,
      λ x.
          ap (λ (z : g.row.ID.Denot × g.row.V.Denot). is_lt (g.P.Ord.cmp c.args.granted.now (g.V.Borrow.borrowed z.1))) (at_any c.args.voters.now c.args.at x c.index-voters-at.result within)
          ∙ ap (λ p. is_lt (g.P.Ord.cmp c.args.granted.now p)) (sym c.borrow.ensures) ∙ sym c.is_below.ensures ∙ above,
    )

pub returns-clause-rests : goal.returns-clause-rests
returns-clause-rests g c = λ below x within.
    ap (λ (z : g.row.ID.Denot × g.row.V.Denot). is_lt (g.P.Ord.cmp c.args.granted.now (g.V.Borrow.borrowed z.1))) (at_any c.args.voters.now c.args.at x c.index-voters-at.result within)
    ∙ ap (λ p. is_lt (g.P.Ord.cmp c.args.granted.now p)) (sym c.borrow.ensures) ∙ sym c.is_below.ensures ∙ below
