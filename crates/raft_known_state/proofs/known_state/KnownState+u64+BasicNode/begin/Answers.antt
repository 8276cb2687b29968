-- What is read is known: the purge point, and no entry yet.
use Rattle.std.proofs.Common.{◌∙◌, ap, sym, subst, refl, None}
use Rattle.raft_values.specs.LogId.{next_place}
use Rattle.raft_log_ids.specs.LogIdList.{purged}
use Rattle.raft_known_state.specs.KnownState.{AreInOrder, purged_ids, meta_of}
use Rattle.raft_known_state.proofs.OrderLemmas.{none_in_order}
use Rattle.raft_known_state.proofs.KnownStateLemmas.{StateOf, HasRead, read}
use Rattle.raft_known_state.proofs.known_state.KnownState+u64+BasicNode.begin.Goals as goal
use Rattle.raft_known_state.proofs.known_state.KnownState+u64+BasicNode.begin.Goals.{in-Some+in_ok-purge_log, in_default}

pub returns-clause-known : goal.returns-clause-known
returns-clause-known c = λ s vote gone snapshot log.
    let before : HasRead c.match-purged.state s.vote s.purged (meta_of s.snapshot) =
    elim c.match-purged.branch [
      | in-Some+in_ok-purge_log w ↦
          (let all = w.state-is ∙ w.in_ok-purge_log.ensures.ok in record {
            vote_is = ap (λ (y : StateOf). y.vote.value) all ∙ ap (λ t. t.value) c.without_utime-state.ensures ∙ sym vote;
            ids = ap (λ (y : StateOf). y.log_ids) all ∙ ap (λ ids. purged ids w.in-Some.purged) c.default-state.ensures.log.0 ∙ ap purged_ids (sym (gone ∙ w.in-Some.is));
            at = ap (λ (y : StateOf). y.purged_next) all ∙ ap next_place (sym (gone ∙ w.in-Some.is));
            meta = ap (λ (y : StateOf). y.snapshot_meta) all ∙ snapshot;
            goal = ap (λ (y : StateOf). y.purge_upto) all ∙ sym gone;
          })
      | in_default w ↦
          (record {
            vote_is = ap (λ (y : StateOf). y.vote.value) w.state-is ∙ ap (λ t. t.value) c.without_utime-state.ensures ∙ sym vote;
            ids = ap (λ (y : StateOf). y.log_ids) w.state-is ∙ c.default-state.ensures.log.0 ∙ ap purged_ids (sym (gone ∙ w.in_default.is));
            at = ap (λ (y : StateOf). y.purged_next) w.state-is ∙ c.default-state.ensures.log.1 ∙ ap next_place (sym (gone ∙ w.in_default.is));
            meta = ap (λ (y : StateOf). y.snapshot_meta) w.state-is ∙ snapshot;
            goal = ap (λ (y : StateOf). y.purge_upto) w.state-is ∙ sym gone;
          })
    ] in
    read c.match-purged.state (record { state = c.match-purged.state; memberships = c.new-memberships.result; wish = None; highest_term = 0 }) c.refresh_memberships.new.self s before log refl
    c.new-memberships.ensures refl
    (c.in_ok-refresh_memberships.ensures.noted (subst AreInOrder (sym c.new-memberships.ensures) none_in_order)) c.in_ok-refresh_memberships.ensures.rest
