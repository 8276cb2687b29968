-- Each node is the own one, a learner, or one voter more.
use Rattle.std.proofs.Common.{◌∙◌, ap, sym}
use Rattle.raft_group_step.specs.Values.{is_voter}
use Rattle.raft_known_state.proofs.MemberIdLemmas.{voter_comes, own_stays_out, learner_stays_out}
use Rattle.raft_known_state.proofs.member_ids.voters_of_others.Goals as goal
use Rattle.raft_known_state.proofs.member_ids.voters_of_others.Goals.{then-id-own+then-is_voter+in_ok-push, else-id-own, else-id-own-via-then-id-own+else-is_voter, else-id-own-via-else-id-own}

pub loop-id-preserved : goal.loop-id-preserved
loop-id-preserved c =
    elim c.if-id-own.branch [
      | then-id-own+then-is_voter+in_ok-push w ↦
          ap (λ v. v.items) w.ids-is ∙ w.in_ok-push.ensures.items
          ∙ voter_comes c.args.own (is_voter c.args.membership.now) c.nodes-id-items.result.now c.loop-id.id-index c.loop-id-item.result c.loop-id-test.true c.loop-id-item.is c.loop-id.ids.items c.loop-id.invariant
          w.if-id-own.true (sym w.is_voter.ensures ∙ w.if-is_voter.true)
      | else-id-own w ↦
          ap (λ v. v.items) w.ids-is
          ∙ elim w.else-id-own.branch [
            | else-id-own-via-then-id-own+else-is_voter w' ↦
                learner_stays_out c.args.own (is_voter c.args.membership.now) c.nodes-id-items.result.now c.loop-id.id-index c.loop-id-item.result c.loop-id-test.true c.loop-id-item.is c.loop-id.ids.items c.loop-id.invariant
                (sym w'.is_voter.ensures ∙ w'.if-is_voter.false)
            | else-id-own-via-else-id-own w' ↦
                own_stays_out c.args.own (is_voter c.args.membership.now) c.nodes-id-items.result.now c.loop-id.id-index c.loop-id-item.result c.loop-id-test.true c.loop-id-item.is c.loop-id.ids.items c.loop-id.invariant
                w'.if-id-own.false
          ]
    ]
