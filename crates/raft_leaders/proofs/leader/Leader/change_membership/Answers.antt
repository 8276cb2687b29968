-- Who had progress keeps it.
use Rattle.std.proofs.Common.{◌∙◌, ◌++◌, ap, subst, sym}
use Rattle.raft_progress.specs.Parts.{IsUpgraded}
use Rattle.raft_leaders.specs.Leader.{left_ids, unknown_peer}
use Rattle.raft_leaders.proofs.PeerLemmas.{values_stay}
use Rattle.raft_leaders.proofs.leader.Leader.change_membership.Goals as goal

pub returns-clause-progress : goal.returns-clause-progress
returns-clause-progress g c =
    let eq = g.NID.PartialEq.eq in
    let old = c.self.inside.progress in
    let members = g.QS.QuorumSet.members c.args.quorum_set in
    let learner_ids = c.args.learner_ids.now in
    rw (← c.self.view_is)
    (subst (λ v. IsUpgraded eq old c.in_ok-progress.progress c.args.quorum_set members (learner_ids ++ left_ids eq old members learner_ids) v)
    (c.empty-unknown.ensures ∙ ap unknown_peer (c.began.ensures ∙ ap (λ l. l.began) (sym c.self.view_is))) c.in_ok-progress.ensures)

pub returns-clause-peers : goal.returns-clause-peers
returns-clause-peers g c =
    let eq = g.NID.PartialEq.eq in
    let old = c.self.inside.progress in
    let members = g.QS.QuorumSet.members c.args.quorum_set in
    let learner_ids = c.args.learner_ids.now in
    rw (← c.self.view_is)
    (λ id. values_stay eq g.met.NID.NodeIdEssential.equal_is_same old c.in_ok-progress.progress c.args.quorum_set members learner_ids (unknown_peer c.self.inside.began)
    (subst (λ v. IsUpgraded eq old c.in_ok-progress.progress c.args.quorum_set members (learner_ids ++ left_ids eq old members learner_ids) v)
    (c.empty-unknown.ensures ∙ ap unknown_peer (c.began.ensures ∙ ap (λ l. l.began) (sym c.self.view_is))) c.in_ok-progress.ensures) id)
