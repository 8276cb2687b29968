use Rattle.std.proofs.Common.{◌∙◌, ap, sym, subst}
use Rattle.std.specs.List.{filter}
use Rattle.std.proofs.lemmas.List.{take_all}
use Rattle.raft_quorums.specs.Rising.{IsRising}
use Rattle.raft_quorums.proofs.RisingLemmas.{rising-filter}
use Rattle.raft_quorums.proofs.id_set.filter_ids.Goals as goal

pub returns-clause-rising : goal.returns-clause-rising
returns-clause-rising g c =
    subst (IsRising g.NID.Ord.cmp)
    (sym (c.loop-id.invariant ∙ ap (filter (g.S.HasId.has c.args.keep.now)) (take_all c.loop-id.id-index c.args.ids.now c.loop-id-test.false)))
    (rising-filter g.NID.Ord.cmp (g.S.HasId.has c.args.keep.now) c.args.ids.now c.requires)
