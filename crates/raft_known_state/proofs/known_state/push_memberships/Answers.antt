-- One entry more: its membership, if it has one, comes behind the others.
use Rattle.std.proofs.Common.{◌∙◌, ap, Some}
use Rattle.raft_known_state.proofs.KnownStateLemmas.{one_put, none_put}
use Rattle.raft_known_state.proofs.known_state.push_memberships.Goals as goal
use Rattle.raft_known_state.proofs.known_state.push_memberships.Goals.{in-Some+in_ok-copy+in_ok-push, in_default}

pub loop-entry-preserved : goal.loop-entry-preserved
loop-entry-preserved c =
    elim c.match-get_membership.branch [
      | in-Some+in_ok-copy+in_ok-push w ↦
          w.memberships-is
          ∙ one_put c.args.memberships.now c.loop-entry.memberships c.args.entries.now c.loop-entry.entry-index c.entry-item.result
          c.loop-entry.invariant c.loop-entry-test.true c.entry-item.is
          w.in-Some.membership.now w.new.result w.in-Some.ensures
          (w.new.ensures ∙ ap (λ m. record { log_id = Some c.entry-item.result.log_id; membership = m }) w.in_ok-copy.ensures.cases)
          w.push.new.self w.in_ok-push.ensures.ok
      | in_default w ↦
          w.memberships-is
          ∙ none_put c.args.memberships.now c.loop-entry.memberships c.args.entries.now c.loop-entry.entry-index c.entry-item.result
          c.loop-entry.invariant c.loop-entry-test.true c.entry-item.is
          w.in_default.ensures
    ]
