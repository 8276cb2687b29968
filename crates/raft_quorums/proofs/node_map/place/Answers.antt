use Rattle.std.proofs.Common.{◌∙◌, sym, ap, arith}
use Rattle.raft_quorums.proofs.PlaceLemmas.{place-gap, place-found, place-end}
use Rattle.raft_quorums.proofs.node_map.place.Goals as goal

pub returns-in-Less-clause-place : goal.returns-in-Less-clause-place
returns-in-Less-clause-place g c =
    sym (place-gap (λ x. g.NID.Ord.cmp c.args.id.now x.0) c.args.nodes.now c.loop-at.at c.index-nodes-at.result (omega arith)
    c.loop-at.invariant (ap (λ x. g.NID.Ord.cmp c.args.id.now x.0) (sym c.index-nodes-at.is) ∙ sym c.in-Less.ensures))

pub returns-in-Equal-clause-place : goal.returns-in-Equal-clause-place
returns-in-Equal-clause-place g c =
    sym (place-found (λ x. g.NID.Ord.cmp c.args.id.now x.0) c.args.nodes.now c.loop-at.at c.index-nodes-at.result (omega arith)
    c.loop-at.invariant (ap (λ x. g.NID.Ord.cmp c.args.id.now x.0) (sym c.index-nodes-at.is) ∙ sym c.in-Equal.ensures))

pub returns-clause-place : goal.returns-clause-place
returns-clause-place g c =
    sym (place-end (λ x. g.NID.Ord.cmp c.args.id.now x.0) c.args.nodes.now c.loop-at.at c.loop-at-test.false c.loop-at.invariant)
