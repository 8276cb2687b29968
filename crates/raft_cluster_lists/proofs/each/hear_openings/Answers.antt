use Rattle.std.specs.Prelude.{ℕ, ◌<◌, length}
use Rattle.std.proofs.Common.{arith, ◌∙◌, get_or, subst, sym}
use Rattle.std.proofs.lemmas.Option.{slice_get-get_or}
use Rattle.raft_cluster_lists.specs.Groups.{GoesOnByOpening}
use Rattle.raft_cluster_lists.specs.Hearing.{IsOpeningHeard}
use Rattle.raft_cluster_lists.specs.Lists.{TakesOne}
use Rattle.raft_cluster_lists.proofs.EachLemmas.{GoesOnTakingOne, all_gone, each_weaker, one_more}
use Rattle.raft_cluster_lists.proofs.each.hear_openings.Goals as goal

pub hear_opening-requires : goal.hear_opening-requires
hear_opening-requires g c =
    let groups = c.loop-kept.groups in
    let at = c.loop-kept.kept-index in
    let within : at < length groups = omega (arith, c.loop-kept-test.true) in
    let there = slice_get-get_or groups at c.kept-item.result within in
    c.requires at (get_or groups at c.kept-item.result) (sym (c.loop-kept.invariant.left at (omega arith)) ∙ there)

pub loop-kept-preserved : goal.loop-kept-preserved
loop-kept-preserved g c =
    let groups = c.loop-kept.groups in
    let at = c.loop-kept.kept-index in
    let x = get_or groups at c.kept-item.result in
    let y = c.hear_opening.new.self in
    let within : at < length groups = omega (arith, c.loop-kept-test.true) in
    let there = slice_get-get_or groups at c.kept-item.result within in
    let id = g.N.ClusterNode.acts.id c.args.node.now in
    let leads = g.N.ClusterNode.acts.leads c.args.node.now in
    let heard = subst (λ (n : ℕ). IsOpeningHeard n c.leading-leading.result c.args.outcome.now x y) c.id-id.ensures c.hear_opening.ensures.heard in
    one_more (GoesOnTakingOne (λ (h : ℕ). GoesOnByOpening id leads h c.args.outcome.now)) at c.args.groups.now groups c.loop-kept.invariant x y there c.hear_opening.ensures.group
    (record { goes_on = record { leading = c.leading-leading.result; leads_behind = c.leading-leading.ensures.leads; heard = heard }; room = c.hear_opening.ensures.room })

pub returns-clause-heard : goal.returns-clause-heard
returns-clause-heard g c =
    let heard = λ (h : ℕ). GoesOnByOpening (g.N.ClusterNode.acts.id c.args.node.now) (g.N.ClusterNode.acts.leads c.args.node.now) h c.args.outcome.now in
    each_weaker (GoesOnTakingOne heard) heard c.args.groups.now c.loop-kept.groups (λ h old new is. is.goes_on)
    (all_gone (GoesOnTakingOne heard) c.loop-kept.kept-index c.args.groups.now c.loop-kept.groups c.loop-kept.invariant
    (omega (arith, c.loop-kept-test.false, c.loop-kept.invariant.size)))

pub returns-clause-room : goal.returns-clause-room
returns-clause-room g c =
    let heard = λ (h : ℕ). GoesOnByOpening (g.N.ClusterNode.acts.id c.args.node.now) (g.N.ClusterNode.acts.leads c.args.node.now) h c.args.outcome.now in
    each_weaker (GoesOnTakingOne heard) (λ (h : ℕ). TakesOne) c.args.groups.now c.loop-kept.groups (λ h old new is. is.room)
    (all_gone (GoesOnTakingOne heard) c.loop-kept.kept-index c.args.groups.now c.loop-kept.groups c.loop-kept.invariant
    (omega (arith, c.loop-kept-test.false, c.loop-kept.invariant.size)))
