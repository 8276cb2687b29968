-- The members are the quorum set's.
use Rattle.std.proofs.Common.{◌≡◌, ◌∙◌, ◌++◌, subst}
use Rattle.std.specs.Prelude.{IfOk}
use Rattle.raft_leaders.specs.Leader.{left_ids}
use Rattle.raft_leaders.proofs.leader.kept_ids.Goals as goal

pub returns : goal.returns
returns g c =
    let eq = g.NID.PartialEq.eq in
    let learner_ids = c.args.learner_ids.now in
    subst (λ members. IfOk c.with_left_ids.result (λ ids. ids.items ≡ learner_ids ++ left_ids eq c.args.progress.now members learner_ids))
    (c.as_slice.ensures.ids ∙ c.in_ok-members.ensures) c.with_left_ids.ensures
