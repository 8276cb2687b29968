use Rattle.std.specs.Prelude.{◌≡◌, ◌∷◌, ◌≤◌, [], List, Vec, length, vec_capacity}
use Rattle.std.specs.declared.alloc.Global.{Global}
use Rattle.std.proofs.Common.{arith, subst, sym, length-append}
use Rattle.raft_group_lists.specs.declared.notes.Reached.{Reached}
use Rattle.raft_group_lists.specs.Room.{AreSpares, EachHolds}
use Rattle.raft_group_lists.proofs.RoomLemmas.{each_more}
use Rattle.raft_group_lists.proofs.room.add_spares.Goals as goal

pub loop-alloc-preserved : goal.loop-alloc-preserved
loop-alloc-preserved c =
    let spares = c.loop-alloc.spares.items in
    let y = c.in_ok-spare.spare in
    let more = c.in_ok-push.ensures.items in
    let i = c.loop-alloc.invariant in
    let size = length-append spares (y ∷ []) in
    let exact = c.in_ok-spare.ensures.exact in
    let fewer : length spares ≤ c.args.count = omega (arith, c.loop-alloc-test.true, c.len.ensures, c.loop-alloc.spares.ok.0) in (
      subst AreSpares (sym more) (each_more (λ (v : Vec Reached Global). v.items ≡ []) spares y i.0 c.in_ok-spare.ensures.items),
      subst (λ (vs : List (Vec Reached Global)). length c.args.spares.now.items ≤ length vs) (sym more) (let old = i.1 in omega (arith, size, old)),
      λ wide. subst (λ (vs : List (Vec Reached Global)). EachHolds vs c.args.count) (sym more) (each_more (λ (v : Vec Reached Global). c.args.count ≤ vec_capacity v) spares y (i.2 wide) (omega (arith, exact))),
      λ n low holds. subst (λ (vs : List (Vec Reached Global)). EachHolds vs n) (sym more)
          (each_more (λ (v : Vec Reached Global). n ≤ vec_capacity v) spares y (i.3 n low holds) (let old = i.1 in omega (arith, exact, fewer, low, old))),
    )

pub returns-in_err-push-clause-holds : goal.returns-in_err-push-clause-holds
returns-in_err-push-clause-holds c =
    λ n low holds.
    subst (λ (vs : List (Vec Reached Global)). EachHolds vs n) (sym c.in_err-push.ensures.items) (c.loop-alloc.invariant.3 n low holds)
