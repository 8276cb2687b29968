-- The entries behind the rest of the walk stand at their places, and at the end that rest is up to the floor.
use Rattle.std.specs.Prelude.{◌≡◌, ◌-◌, ◌≤◌, ◌++◌, Some, drop}
use Rattle.std.proofs.Common.{ap, ◌∙◌, subst, arith, length-set}
use Rattle.std.proofs.lemmas.List.{take-set-le}
use Rattle.raft_group_lists.specs.Notes.{AreWithin, count_to, entries_at, list_to}
use Rattle.raft_group_lists.proofs.WalkLemmas.{behind_front, fill_more, list_size, step_at}
use Rattle.raft_group_lists.proofs.walks.fill_above.Goals as goal

pub loop-at-preserved : goal.loop-at-preserved
loop-at-preserved c =
    let noted = c.args.noted.now in
    let at = c.loop-at in
    let i = at.invariant in
    let x = step_at noted c.requires.joined at.at c.in-Some.k c.index-noted-k.result i.0 c.in-Some.is c.index-noted-k.is in
    let more = fill_more noted c.requires.joined at.at c.in-Some.k c.index-noted-k.result at.listed (list_to noted (Some c.args.last)) x (record { list = i.2; within = i.3 }) i.6 in
    let one = (c.requires.joined c.in-Some.k c.index-noted-k.result x.there).count in
    let place : c.args.floor ≤ c.index-noted-k.result.count - 1 = omega (arith, c.if-item-floor.false) in
    let size = length-set at.listed (c.index-noted-k.result.count - 1) c.in-Some.k in (
      x.rest,
      omega (arith, c.if-item-floor.false),
      more.list,
      more.within,
      take-set-le c.args.floor at.listed (c.index-noted-k.result.count - 1) c.in-Some.k place ∙ i.4,
      omega (arith, i.5),
      omega (arith, x.less, i.6),
    )

pub returns-then-item-floor-clause-entries : goal.returns-then-item-floor-clause-entries
returns-then-item-floor-clause-entries c =
    let noted = c.args.noted.now in
    let at = c.loop-at in
    let i = at.invariant in
    let x = step_at noted c.requires.joined at.at c.in-Some.k c.index-noted-k.result i.0 c.in-Some.is c.index-noted-k.is in
    let count : count_to noted at.at ≡ c.args.floor = omega (arith, x.count, c.if-item-floor.true, i.1) in
    let whole : list_to noted (Some c.args.last) ≡ list_to noted at.at ++ entries_at noted (drop c.args.floor at.listed) =
    i.2 ∙ ap (λ n. list_to noted at.at ++ entries_at noted (drop n at.listed)) count
    in
    behind_front c.args.floor (list_to noted at.at) (entries_at noted (drop c.args.floor at.listed)) (list_to noted (Some c.args.last)) whole
    (list_size noted c.requires.joined at.at i.0 ∙ count)

pub returns-then-item-floor-clause-within : goal.returns-then-item-floor-clause-within
returns-then-item-floor-clause-within c =
    let noted = c.args.noted.now in
    let at = c.loop-at in
    let i = at.invariant in
    let x = step_at noted c.requires.joined at.at c.in-Some.k c.index-noted-k.result i.0 c.in-Some.is c.index-noted-k.is in
    let count : count_to noted at.at ≡ c.args.floor = omega (arith, x.count, c.if-item-floor.true, i.1) in
    subst (λ n. AreWithin noted (drop n at.listed)) count i.3
