use Rattle.std.specs.Prelude.{ℕ, ◌+◌, ◌<◌, length}
use Rattle.std.proofs.Common.{arith, get_or}
use Rattle.std.proofs.lemmas.Option.{slice_get-get_or}
use Rattle.raft_cluster_lists.specs.Places.{IsNoLess}
use Rattle.raft_cluster_lists.proofs.EachLemmas.{IsNoLessWithRoom, all_gone, each_ready, one_more, others_stay, same_items, stays_same, weaker}
use Rattle.raft_cluster_lists.proofs.each.make_room_in.Goals as goal

pub returns-in_err-make_room-clause-same : goal.returns-in_err-make_room-clause-same
returns-in_err-make_room-clause-same c =
    let groups = c.loop-kept.groups in
    let at = c.loop-kept.kept-index in
    let x = get_or groups at c.kept-item.result in
    let y = c.make_room.new.self in
    let within : at < length groups = omega (arith, c.loop-kept-test.true) in
    let there = slice_get-get_or groups at c.kept-item.result within in
    let before = weaker (λ (h : ℕ). IsNoLessWithRoom c.args.events) (λ (h : ℕ). IsNoLess) at c.args.groups.now groups (λ h old new is. is.same) c.loop-kept.invariant in
    let same : IsNoLess x y = same_items x y c.make_room.ensures.same c.make_room.ensures.stopped c.make_room.ensures.keeps in
    others_stay (λ (h : ℕ). IsNoLess) (at + 1) c.args.groups.now _
    (one_more (λ (h : ℕ). IsNoLess) at c.args.groups.now groups before x y there c.make_room.ensures.group same) (λ h kept. stays_same kept)

pub loop-kept-preserved : goal.loop-kept-preserved
loop-kept-preserved c =
    let groups = c.loop-kept.groups in
    let at = c.loop-kept.kept-index in
    let x = get_or groups at c.kept-item.result in
    let y = c.make_room.new.self in
    let within : at < length groups = omega (arith, c.loop-kept-test.true) in
    let there = slice_get-get_or groups at c.kept-item.result within in
    let step : IsNoLessWithRoom c.args.events x y = record { same = same_items x y c.make_room.ensures.same c.make_room.ensures.stopped c.make_room.ensures.keeps; ready = c.in_ok-make_room.ensures.ok } in
    one_more (λ (h : ℕ). IsNoLessWithRoom c.args.events) at c.args.groups.now groups c.loop-kept.invariant x y there c.make_room.ensures.group step

pub returns-clause-ok : goal.returns-clause-ok
returns-clause-ok c =
    λ at kept e.
    let all = all_gone (λ (h : ℕ). IsNoLessWithRoom c.args.events) c.loop-kept.kept-index c.args.groups.now c.loop-kept.groups c.loop-kept.invariant (omega (arith, c.loop-kept-test.false, c.loop-kept.invariant.size)) in
    each_ready c.args.events c.args.groups.now c.loop-kept.groups all at kept e

pub returns-clause-same : goal.returns-clause-same
returns-clause-same c =
    all_gone (λ (h : ℕ). IsNoLess) c.loop-kept.kept-index c.args.groups.now c.loop-kept.groups
    (weaker (λ (h : ℕ). IsNoLessWithRoom c.args.events) (λ (h : ℕ). IsNoLess) c.loop-kept.kept-index c.args.groups.now c.loop-kept.groups (λ h old new is. is.same) c.loop-kept.invariant)
    (omega (arith, c.loop-kept-test.false, c.loop-kept.invariant.size))
