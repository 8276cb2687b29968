use Rattle.std.specs.Prelude.{◌<◌, Some, length, refl}
use Rattle.std.proofs.Common.{get_or, ap, ◌∙◌, arith, length-set}
use Rattle.std.proofs.lemmas.Option.{slice_get_read, slice_get_within}
use Rattle.raft_group_lists.specs.declared.notes.Lead.{Lead}
use Rattle.raft_group_lists.proofs.RoomLemmas.{space_set, wider_set}
use Rattle.raft_group_lists.proofs.room.widen.Goals as goal

pub returns-in_err-reserve-clause-wider : goal.returns-in_err-reserve-clause-wider
returns-in_err-reserve-clause-wider c =
    let leads = c.loop-at.leads in
    let at = c.loop-at.at in
    let x = get_or leads at c.index-leads-at.result in
    let y : Lead = record { vote = x.vote; last = x.last; reached = c.reserve.new.self } in
    let inside : at < length leads = omega (arith, c.loop-at-test.true) in
    let there = slice_get_read leads (length leads) at c.index-leads-at.result refl inside c.index-leads-at.is ∙ ap (λ (l : Lead). Some l) c.index-leads-at.is in
    let wide = wider_set c.args.leads.now leads at x y c.loop-at.invariant.0 there refl refl c.reserve.ensures.items c.reserve.ensures.len c.reserve.ensures.capacity in
    wide

pub loop-at-preserved : goal.loop-at-preserved
loop-at-preserved c =
    let leads = c.loop-at.leads in
    let at = c.loop-at.at in
    let x = get_or leads at c.index-leads-at.result in
    let y : Lead = record { vote = x.vote; last = x.last; reached = c.reserve.new.self } in
    let inside : at < length leads = omega (arith, c.loop-at-test.true) in
    let there = slice_get_read leads (length leads) at c.index-leads-at.result refl inside c.index-leads-at.is ∙ ap (λ (l : Lead). Some l) c.index-leads-at.is in
    let wide = wider_set c.args.leads.now leads at x y c.loop-at.invariant.0 there refl refl c.reserve.ensures.items c.reserve.ensures.len c.reserve.ensures.capacity in
    let size = length-set leads at y in (
      wide,
      omega (arith, inside),
      space_set leads at c.args.count x y there c.in_ok-reserve.ensures.ok c.loop-at.invariant.2,
    )

pub returns-clause-ok : goal.returns-clause-ok
returns-clause-ok c =
    λ i lead e.
    let inside = slice_get_within c.loop-at.leads i lead e in
    c.loop-at.invariant.2 i lead (omega (arith, c.loop-at-test.false)) e
