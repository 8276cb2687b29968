-- Learners are no voters, and of no peer anything is known.
use Rattle.std.proofs.Common.{◌∙◌, ap, arith}
use Rattle.raft_values.specs.LogId.{next_place}
use Rattle.std.specs.Prelude.{nat_eq}
use Rattle.raft_membership.specs.Membership.{learner_ids}
use Rattle.raft_engine.proofs.LeaderLemmas.{are_keys_for, begins}
use Rattle.raft_engine.proofs.MemberLemmas.{no_voters, rising_distinct}
use Rattle.raft_engine.proofs.ClockLemmas.{made_unheard}
use Rattle.raft_engine.proofs.engine.Engine.new_leader.Goals as goal

pub new-requires-clause-distinct : goal.new-requires-clause-distinct
new-requires-clause-distinct g c = rw c.as_slice.ensures.ids (rising_distinct _ c.as_slice.ensures.rising)

pub new-requires-clause-no_voters : goal.new-requires-clause-no_voters
new-requires-clause-no_voters g c =
    rw (c.as_slice.ensures.ids, c.in_ok-learner_ids.ensures, c.membership.ensures)
    (no_voters c.in_ok-membership.membership.membership.configs c.in_ok-membership.membership.membership.nodes)

pub new-requires-clause-fits : goal.new-requires-clause-fits
new-requires-clause-fits g c =
    let same = ap next_place c.keys_of_leader-keys.ensures.last in
    omega (arith, same, c.requires)

pub returns-clause-leads : goal.returns-clause-leads
returns-clause-leads g c = λ own s known placed is_own committed.
    let found = c.keys_of_leader-keys in
    let keys = found.result.now in
    let m = c.in_ok-membership.membership in
    let in_force = c.in_ok-membership.ensures.cases ∙ c.effective_membership.ensures s known in
    let of_log = are_keys_for c.args.vote.leader_id keys c.args.self.now.state s known placed found.ensures.rise found.ensures.last (found.ensures.ids s known) in
    let learners = c.as_slice.ensures.ids ∙ c.in_ok-learner_ids.ensures ∙ ap (λ y. learner_ids nat_eq y.configs y.nodes) c.membership.ensures in
    begins own c.args.vote s m in_force keys of_log is_own committed c.as_slice.result.now learners
    c.new.result c.new.ensures.vote c.new.ensures.last_log_id c.new.ensures.noop_log_id c.new.ensures.began c.new.ensures.voters c.new.ensures.learners

pub returns-clause-heard : goal.returns-clause-heard
returns-clause-heard g c = made_unheard c.new.result _ c.as_slice.result.now c.new.ensures.voter_clocks c.new.ensures.learner_clocks
