-- The rest of the walk has the last membership, where the entry that was passed has none.
use Rattle.std.proofs.Common.{sym, ap, ◌∙◌}
use Rattle.raft_group_lists.specs.Notes.{list_to, membership_in}
use Rattle.raft_group_lists.proofs.MembershipLemmas.{membership_here, membership_past}
use Rattle.raft_group_lists.proofs.WalkLemmas.{step_at}
use Rattle.raft_group_lists.proofs.walks.membership_to.Goals as goal

pub loop-at-smaller : goal.loop-at-smaller
loop-at-smaller c =
    let x = step_at c.args.noted.now c.requires.joined c.loop-at.at c.in-Some.k c.index-noted-k.result c.loop-at.invariant.0 c.in-Some.is c.index-noted-k.is in
    x.less

pub returns-in-Membership : goal.returns-in-Membership
returns-in-Membership c =
    let noted = c.args.noted.now in
    let x = step_at noted c.requires.joined c.loop-at.at c.in-Some.k c.index-noted-k.result c.loop-at.invariant.0 c.in-Some.is c.index-noted-k.is in
    sym (c.loop-at.invariant.1 ∙ ap membership_in x.list
    ∙ membership_here (list_to noted c.index-noted-k.result.before) c.index-noted-k.result.entry c.in-Membership.membership c.in-Membership.is)

pub loop-at-preserved : goal.loop-at-preserved
loop-at-preserved c =
    let noted = c.args.noted.now in
    let x = step_at noted c.requires.joined c.loop-at.at c.in-Some.k c.index-noted-k.result c.loop-at.invariant.0 c.in-Some.is c.index-noted-k.is in (
      x.rest,
      c.loop-at.invariant.1 ∙ ap membership_in x.list
          ∙ membership_past (list_to noted c.index-noted-k.result.before) c.index-noted-k.result.entry c.in_default-payload.not-Membership,
    )
