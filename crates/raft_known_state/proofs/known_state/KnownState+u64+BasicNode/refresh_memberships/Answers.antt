-- The last membership of all is in force, and the last one of those counted is committed.
use Rattle.std.proofs.Common.{◌≤◌, ◌∙◌, ap, sym, subst, take, length, arith}
use Rattle.std.proofs.lemmas.List.{take_all}
use Rattle.raft_values.specs.LogId.{next_place}
use Rattle.raft_known_state.specs.KnownState.{AreInOrder, MembershipState, force_of_snapshot, last_else, take_below}
use Rattle.raft_known_state.proofs.known_state.KnownState+u64+BasicNode.refresh_memberships.Goals as goal

pub returns-clause-noted : goal.returns-clause-noted
returns-clause-noted c = λ h.
    let old = c.args.self.now in
    let ms = old.memberships in
    let count = c.count_committed-count.result in
    let snapshot = force_of_snapshot old.state.snapshot_meta in
    let all : length ms ≤ c.len.result = omega (arith, c.len.ensures) in (
      ap (λ (b : MembershipState). b.effective) c.new.ensures ∙ c.in_ok-effective.ensures ∙ ap (last_else snapshot) (take_all c.len.result ms all),
      ap (λ (b : MembershipState). b.committed) c.new.ensures ∙ c.in_ok-committed.ensures
          ∙ ap (last_else snapshot)
          (ap (take count) (sym c.as_slice.ensures)
          ∙ c.count_committed-count.ensures.below (subst AreInOrder (sym c.as_slice.ensures) h)
          ∙ ap (take_below (next_place old.state.committed)) c.as_slice.ensures),
    )
