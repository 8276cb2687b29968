-- Each node of the new membership is a voter or a learner.
use Rattle.std.proofs.Common.{◌∙◌, ap, None}
use Rattle.std.proofs.lemmas.Bool.{eqb-true}
use Rattle.raft_leaders.proofs.PeerLemmas.{values_stay}
use Rattle.std.specs.Prelude.{nat_eq}
use Rattle.std.specs.Ordering.{nat_cmp}
use Rattle.std.proofs.lemmas.Result.{on_ok_weaker}
use Rattle.raft_membership.specs.Membership.{voter_ids}
use Rattle.raft_leaders.specs.Leader.{left_ids, unknown_peer}
use Rattle.raft_engine.specs.Standing.{EffectiveMembership}
use Rattle.raft_engine.proofs.AppendLemmas.{knows_new}
use Rattle.raft_engine.proofs.MemberLemmas.{has_copy, has_upgraded}
use Rattle.raft_engine.proofs.leader_handler.count_by_entry.Goals as goal

pub returns-clause-members : goal.returns-clause-members
returns-clause-members c = λ before knows.
    let m = c.in-Some.membership.now in
    let old = c.args.leader.now in
    let counts = c.new-effective.result in
    let learners = c.as_slice.result.now in
    on_ok_weaker c.change_membership.result
    (λ h. knows_new c.change_membership.new.self before c.args.entry.now.log_id c.args.entry.now.payload m c.in-Some.ensures
    (λ n has. has_upgraded old.progress c.change_membership.new.self.progress counts (voter_ids nat_cmp counts.membership.configs) learners
    (left_ids nat_eq old.progress (voter_ids nat_cmp counts.membership.configs) learners) (unknown_peer old.began) h n
    (has_copy m counts.membership learners (ap (λ (y : EffectiveMembership). y.membership) c.new-effective.ensures ∙ c.in_ok-clone.ensures.cases) (c.as_slice.ensures.ids ∙ c.in_ok-learner_ids.ensures) n has)))
    c.change_membership.ensures.progress

pub returns-clause-heard : goal.returns-clause-heard
returns-clause-heard c =
    let counts = c.new-effective.result in
    let voters = voter_ids nat_cmp counts.membership.configs in
    let old = c.args.leader.now in
    on_ok_weaker c.change_membership.result
    (λ h. values_stay nat_eq eqb-true old.clock_progress c.change_membership.new.self.clock_progress counts voters c.as_slice.result.now None h)
    c.change_membership.ensures.clocks
