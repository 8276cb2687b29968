use Rattle.std.specs.Prelude.{ℕ, slice_set}
use Rattle.std.proofs.Common.{get_or}
use Rattle.std.proofs.lemmas.Option.{slice_get-get_or}
use Rattle.std.proofs.lemmas.Result.{IfOk-weaker}
use Rattle.raft_cluster_lists.specs.Brought.{Brings}
use Rattle.raft_cluster_lists.specs.Places.{IsNoLess, IsPreparedAt}
use Rattle.raft_cluster_lists.proofs.EachLemmas.{alone_each, alone_set, same_items, set_here, stays_same}
use Rattle.raft_cluster_lists.proofs.each.prepare_at.Goals as goal

pub returns-in_err-make_room-clause-same : goal.returns-in_err-make_room-clause-same
returns-in_err-make_room-clause-same c =
    let groups = c.args.groups.now in
    let x = get_or groups c.args.at c.index-groups-at.result in
    let y = c.make_room.new.self in
    let there = slice_get-get_or groups c.args.at c.index-groups-at.result c.requires in
    alone_each (λ (h : ℕ). IsNoLess) c.args.at groups _
    (alone_set (λ (h : ℕ). IsNoLess) groups c.args.at x y there c.make_room.ensures.group (same_items x y c.make_room.ensures.same c.make_room.ensures.stopped c.make_room.ensures.keeps)) (λ h kept. stays_same kept)

pub returns-clause-same : goal.returns-clause-same
returns-clause-same c =
    let groups = c.args.groups.now in
    let x = get_or groups c.args.at c.index-groups-at.result in
    let y = c.make_room.new.self in
    let there = slice_get-get_or groups c.args.at c.index-groups-at.result c.requires in
    alone_each (λ (h : ℕ). IsNoLess) c.args.at groups _
    (alone_set (λ (h : ℕ). IsNoLess) groups c.args.at x y there c.make_room.ensures.group (same_items x y c.make_room.ensures.same c.make_room.ensures.stopped c.make_room.ensures.keeps)) (λ h kept. stays_same kept)

pub returns-clause-there : goal.returns-clause-there
returns-clause-there c =
    let groups = c.args.groups.now in
    let x = get_or groups c.args.at c.index-groups-at.result in
    let y = c.make_room.new.self in
    let there = slice_get-get_or groups c.args.at c.index-groups-at.result c.requires in
    IfOk-weaker c.brought_by.result (Brings y.list.notes c.args.leading.now c.args.event.now) (IsPreparedAt (slice_set groups c.args.at y) c.args.at c.args.leading.now c.args.event.now c.args.events)
    (λ brought brings. record { kept = y; there = set_here groups c.args.at y c.requires; ready = c.in_ok-make_room.ensures.ok; brings = brings })
    c.brought_by.ensures
