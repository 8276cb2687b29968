use Rattle.std.proofs.Common.{◌∙◌, ap, sym, subst}
use Rattle.std.specs.List.{filter}
use Rattle.std.proofs.lemmas.List.{take_all}
use Rattle.raft_quorums.specs.Rising.{IsRisingByFirst}
use Rattle.raft_quorums.proofs.RisingLemmas.{rising_by_first-filter}
use Rattle.raft_quorums.proofs.node_map.filter_nodes.Goals as goal

pub returns-clause-rising : goal.returns-clause-rising
returns-clause-rising g c =
    subst (IsRisingByFirst g.NID.Ord.cmp)
    (sym (c.loop-id.invariant ∙ ap (filter (λ x. g.S.HasId.has c.args.keep.now x.0)) (take_all c.loop-id.id-index c.args.nodes.now c.loop-id-test.false)))
    (rising_by_first-filter g.NID.Ord.cmp (λ x. g.S.HasId.has c.args.keep.now x.0) c.args.nodes.now c.requires)
