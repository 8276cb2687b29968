-- The ids that are left come behind the learners.
use Rattle.std.proofs.Common.{◌∙◌, ◌++◌, ◌∷◌, [], sym, ap, append_assoc, append-nil}
use Rattle.raft_leaders.specs.Leader.{left_among}
use Rattle.raft_leaders.proofs.PeerLemmas.{left-more}
use Rattle.raft_leaders.proofs.leader.with_left_ids.Goals as goal

pub loop-entry-preserved : goal.loop-entry-preserved
loop-entry-preserved g c =
    let eq = g.NID.PartialEq.eq in
    let members = c.args.members.now in
    let learner_ids = c.args.learner_ids.now in
    let x = c.in-Some.entry.now in
    let rest = c.next.new.self in
    let before = c.loop-entry.ids.items in
    ap (λ l. l ++ left_among eq members learner_ids rest) c.in_ok-push_left.ensures
    ∙ append_assoc before (left_among eq members learner_ids (x ∷ [])) (left_among eq members learner_ids rest)
    ∙ ap (λ l. before ++ l) (left-more eq members learner_ids x rest)
    ∙ ap (λ l. before ++ left_among eq members learner_ids l) (sym c.in-Some.ensures.steps)
    ∙ c.loop-entry.invariant

pub returns : goal.returns
returns g c =
    let eq = g.NID.PartialEq.eq in
    let members = c.args.members.now in
    let learner_ids = c.args.learner_ids.now in
    sym (append-nil c.loop-entry.ids.items)
    ∙ ap (λ l. c.loop-entry.ids.items ++ left_among eq members learner_ids l) (sym c.in-None.ensures.steps.0)
    ∙ c.loop-entry.invariant
    ∙ ap (λ l. learner_ids ++ left_among eq members learner_ids l) (c.into_iter-entry-iterator.ensures.into_iter_gives ∙ c.iter-entry-items.ensures)
