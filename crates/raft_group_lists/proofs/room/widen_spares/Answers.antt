use Rattle.std.specs.Prelude.{◌≡◌, ◌<◌, ◌≤◌, [], Vec, length, refl, vec_capacity}
use Rattle.std.specs.declared.alloc.Global.{Global}
use Rattle.std.proofs.Common.{arith, ◌∙◌, length-set}
use Rattle.std.proofs.lemmas.Option.{slice_get_read}
use Rattle.raft_group_lists.specs.declared.notes.Reached.{Reached}
use Rattle.raft_group_lists.proofs.RoomLemmas.{each_set, front_set}
use Rattle.raft_group_lists.proofs.room.widen_spares.Goals as goal

pub returns-in_err-reserve-clause-holds : goal.returns-in_err-reserve-clause-holds
returns-in_err-reserve-clause-holds c =
    let spares = c.loop-at.spares.items in
    let at = c.loop-at.at in
    let x = c.index_mut.result.now in
    let y = c.reserve.new.self in
    let inside : at < length spares = omega (arith, c.loop-at-test.true, c.len.ensures, c.loop-at.spares.ok.0) in
    let there = slice_get_read spares (length spares) at x refl inside c.index_mut.ensures.value in
    let grown = c.reserve.ensures.capacity in
    λ n holds.
    let before = c.loop-at.invariant.4 n holds in
    let own = before at x there in
    each_set (λ (v : Vec Reached Global). n ≤ vec_capacity v) spares at y before (omega (arith, own, grown))

pub loop-at-preserved : goal.loop-at-preserved
loop-at-preserved c =
    let spares = c.loop-at.spares.items in
    let at = c.loop-at.at in
    let x = c.index_mut.result.now in
    let y = c.reserve.new.self in
    let inside : at < length spares = omega (arith, c.loop-at-test.true, c.len.ensures, c.loop-at.spares.ok.0) in
    let there = slice_get_read spares (length spares) at x refl inside c.index_mut.ensures.value in
    let grown = c.reserve.ensures.capacity in
    let fits = c.in_ok-reserve.ensures.ok in
    let size = length-set spares at y in
    let i = c.loop-at.invariant in (
      each_set (λ (v : Vec Reached Global). v.items ≡ []) spares at y i.0 (c.reserve.ensures.items ∙ i.0 at x there),
      size ∙ i.1,
      omega (arith, inside, size),
      front_set c.args.count at spares x y there (omega (arith, fits)) i.3,
      λ n holds.
          let before = i.4 n holds in
          let own = before at x there in
          each_set (λ (v : Vec Reached Global). n ≤ vec_capacity v) spares at y before (omega (arith, own, grown)),
    )
