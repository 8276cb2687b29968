use Rattle.std.specs.Prelude.{slice_set, ℕ}
use Rattle.std.proofs.Common.{get_or, subst}
use Rattle.std.proofs.lemmas.Option.{slice_get-get_or}
use Rattle.raft_cluster_lists.specs.Groups.{GoesOnByCall}
use Rattle.raft_cluster_lists.specs.Hearing.{IsCallHeard}
use Rattle.raft_cluster_lists.specs.Lists.{TakesOne}
use Rattle.raft_cluster_lists.proofs.EachLemmas.{alone_each, alone_set}
use Rattle.raft_cluster_lists.proofs.ReadyLemmas.{takes_none}
use Rattle.raft_cluster_lists.proofs.each.hear_at.Goals as goal

pub hear_call-requires : goal.hear_call-requires
hear_call-requires g c =
    let groups = c.args.groups.now in
    c.requires.ready (get_or groups c.args.at c.index-groups-at.result) (slice_get-get_or groups c.args.at c.index-groups-at.result c.requires.within)

pub returns-clause-heard : goal.returns-clause-heard
returns-clause-heard g c =
    let groups = c.args.groups.now in
    let x = get_or groups c.args.at c.index-groups-at.result in
    let y = c.hear_call.new.self in
    let there = slice_get-get_or groups c.args.at c.index-groups-at.result c.requires.within in
    let id = g.N.ClusterNode.acts.id c.args.node.now in
    let leads = g.N.ClusterNode.acts.leads c.args.node.now in
    let heard = subst (λ (n : ℕ). IsCallHeard n c.leading-leading.result c.args.outcome.now c.args.accepted c.args.brought x y) c.id.ensures c.hear_call.ensures.heard in
    alone_set (λ (h : ℕ). GoesOnByCall id leads h c.args.outcome.now c.args.accepted c.args.brought) groups c.args.at x y there c.hear_call.ensures.group
    (record { leading = c.leading-leading.result; leads_behind = c.leading-leading.ensures.leads; heard = heard })

pub returns-clause-room : goal.returns-clause-room
returns-clause-room g c =
    let groups = c.args.groups.now in
    let x = get_or groups c.args.at c.index-groups-at.result in
    let y = c.hear_call.new.self in
    let there = slice_get-get_or groups c.args.at c.index-groups-at.result c.requires.within in
    alone_each (λ (h : ℕ). TakesOne) c.args.at groups (slice_set groups c.args.at y)
    (alone_set (λ (h : ℕ). TakesOne) groups c.args.at x y there c.hear_call.ensures.group c.hear_call.ensures.room) (λ h kept. takes_none kept)
