-- Each node of the membership is a voter or a learner, and what is known of each peer stays.
use Rattle.std.proofs.Common.{◌∙◌, ap, subst, sym, None, Some}
use Rattle.std.proofs.lemmas.Bool.{eqb-true}
use Rattle.raft_leaders.proofs.PeerLemmas.{values_stay}
use Rattle.std.specs.Prelude.{nat_eq, ◌||◌}
use Rattle.std.specs.Ordering.{nat_cmp}
use Rattle.raft_quorums.specs.Nodes.{has_id}
use Rattle.raft_membership.specs.Membership.{voter_ids, learner_ids}
use Rattle.raft_group_step.specs.Values.{Membership}
use Rattle.raft_known_state.specs.KnownState.{effective_of}
use Rattle.raft_leaders.specs.Leader.{left_ids, unknown_peer}
use Rattle.raft_engine.specs.Clock.{KeepsHeard}
use Rattle.raft_engine.specs.Leading.{CountsBy, CountsOn}
use Rattle.raft_engine.specs.Standing.{EffectiveMembership}
use Rattle.raft_engine.proofs.LeaderLemmas.{has_member}
use Rattle.raft_engine.proofs.MemberLemmas.{has_upgraded}
use Rattle.raft_engine.proofs.leader_handler.count_by.Goals as goal

pub returns-clause-heard : goal.returns-clause-heard
returns-clause-heard c =
    let old = c.in-Some.leader in
    let counts = c.in_ok-clone.field-0 in
    let voters = voter_ids nat_cmp counts.membership.configs in
    let kept : KeepsHeard (Some old) (Some c.change_membership.new.self) =
    values_stay nat_eq eqb-true old.clock_progress c.change_membership.new.self.clock_progress counts voters c.as_slice.result.now None
    c.in_ok-change_membership.ensures.clocks in
    subst (λ o. KeepsHeard o (Some c.change_membership.new.self)) (sym c.in-Some.is) kept

pub returns-clause-counts : goal.returns-clause-counts
returns-clause-counts c = λ m is.
    let old = c.in-Some.leader in
    let counts = c.in_ok-clone.field-0 in
    let voters = voter_ids nat_cmp counts.membership.configs in
    let learners = c.as_slice.result.now in
    let of_copy = c.in_ok-clone.ensures.cases ∙ is in
    let of_learners = c.as_slice.ensures.ids ∙ c.in_ok-learner_ids.ensures
    ∙ ap (λ (y : Membership). learner_ids nat_eq y.configs y.nodes) (c.membership.ensures ∙ ap (λ (y : EffectiveMembership). y.membership) is) in
    let by : CountsBy m old c.change_membership.new.self =
    record {
      members = λ n has.
          has_upgraded old.progress c.change_membership.new.self.progress counts voters learners (left_ids nat_eq old.progress voters learners) (unknown_peer old.began)
          c.in_ok-change_membership.ensures.progress n
          (ap (λ (y : EffectiveMembership). has_id nat_eq (voter_ids nat_cmp y.membership.configs) n || has_id nat_eq learners n) of_copy
          ∙ ap (λ ids. has_id nat_eq (voter_ids nat_cmp (effective_of m).membership.configs) n || has_id nat_eq ids n) of_learners
          ∙ has_member m n has);
      peers = c.in_ok-change_membership.ensures.peers;
      rest = c.change_membership.ensures.rest;
    } in
    subst (λ o. CountsOn m o (Some c.change_membership.new.self)) (sym c.in-Some.is) by
