-- The rest of the walk has all that is settled: what was passed isn't, and an entry that passes is the last of it.
use Rattle.std.specs.Prelude.{length}
use Rattle.std.proofs.Common.{sym, ap, ◌∙◌, arith}
use Rattle.raft_group_lists.specs.Notes.{count_to, list_to, passes, settled_by}
use Rattle.raft_group_lists.proofs.WalkLemmas.{settled_all, settled_past, settled_short, step_at}
use Rattle.raft_group_lists.proofs.walks.settled_at.Goals as goal

pub returns-then-item-floor : goal.returns-then-item-floor
returns-then-item-floor c =
    let j = c.args.judge.now in
    let p = passes j.voters.now j.leader j.reached.now j.node j.place in
    let x = step_at c.args.noted.now c.requires.joined c.loop-at.at c.in-Some.k c.index-noted-k.result c.loop-at.invariant.0 c.in-Some.is c.index-noted-k.is in
    let size = ap length c.loop-at.invariant.1 in
    let short = settled_short p (list_to c.args.noted.now c.loop-at.at) in
    omega (arith, x.size, c.if-item-floor.true)

pub returns-then-passes : goal.returns-then-passes
returns-then-passes c =
    let j = c.args.judge.now in
    let p = passes j.voters.now j.leader j.reached.now j.node j.place in
    let noted = c.args.noted.now in
    let x = step_at noted c.requires.joined c.loop-at.at c.in-Some.k c.index-noted-k.result c.loop-at.invariant.0 c.in-Some.is c.index-noted-k.is in
    let count = sym (ap (λ at. count_to noted at) c.in-Some.is) ∙ x.count in (
      x.within,
      omega (arith, c.if-item-floor.false),
      c.loop-at.invariant.1 ∙ ap (settled_by p) x.list
          ∙ settled_all p (list_to noted c.index-noted-k.result.before) c.index-noted-k.result.entry (sym c.passes.ensures ∙ c.if-passes.true)
          ∙ sym x.list ∙ ap (list_to noted) c.in-Some.is,
    )

pub loop-at-smaller : goal.loop-at-smaller
loop-at-smaller c =
    let x = step_at c.args.noted.now c.requires.joined c.loop-at.at c.in-Some.k c.index-noted-k.result c.loop-at.invariant.0 c.in-Some.is c.index-noted-k.is in
    x.less

pub loop-at-preserved : goal.loop-at-preserved
loop-at-preserved c =
    let j = c.args.judge.now in
    let p = passes j.voters.now j.leader j.reached.now j.node j.place in
    let noted = c.args.noted.now in
    let x = step_at noted c.requires.joined c.loop-at.at c.in-Some.k c.index-noted-k.result c.loop-at.invariant.0 c.in-Some.is c.index-noted-k.is in (
      x.rest,
      c.loop-at.invariant.1 ∙ ap (settled_by p) x.list
          ∙ settled_past p (list_to noted c.index-noted-k.result.before) c.index-noted-k.result.entry (sym c.passes.ensures ∙ c.if-passes.false),
    )
