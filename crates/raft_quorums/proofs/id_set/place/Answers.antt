use Rattle.std.proofs.Common.{◌∙◌, sym, ap, arith}
use Rattle.raft_quorums.proofs.PlaceLemmas.{place-gap, place-found, place-end}
use Rattle.raft_quorums.proofs.id_set.place.Goals as goal

pub returns-in-Less-clause-place : goal.returns-in-Less-clause-place
returns-in-Less-clause-place g c =
    sym (place-gap (g.NID.Ord.cmp c.args.id.now) c.args.ids.now c.loop-at.at c.index-ids-at.result (omega arith)
    c.loop-at.invariant (ap (g.NID.Ord.cmp c.args.id.now) (sym c.index-ids-at.is) ∙ sym c.in-Less.ensures))

pub returns-in-Equal-clause-place : goal.returns-in-Equal-clause-place
returns-in-Equal-clause-place g c =
    sym (place-found (g.NID.Ord.cmp c.args.id.now) c.args.ids.now c.loop-at.at c.index-ids-at.result (omega arith)
    c.loop-at.invariant (ap (g.NID.Ord.cmp c.args.id.now) (sym c.index-ids-at.is) ∙ sym c.in-Equal.ensures))

pub returns-clause-place : goal.returns-clause-place
returns-clause-place g c =
    sym (place-end (g.NID.Ord.cmp c.args.id.now) c.args.ids.now c.loop-at.at c.loop-at-test.false c.loop-at.invariant)
