-- The log ids are purged, and of the memberships those in front are gone.
use Rattle.std.proofs.Common.{◌≡◌, ◌+◌, ◌∙◌, ap, sym, subst, drop, refl, arith}
use Rattle.std.proofs.lemmas.Bool.Decides.{nat_tests}
use Rattle.std.proofs.lemmas.List.Sorted.{IsNonDecreasingBy-drop}
use Rattle.raft_values.specs.LogId.{next_place}
use Rattle.raft_log_ids.specs.LogIdList.{purged}
use Rattle.raft_known_state.specs.KnownState.{AreInOrder, KnownState, drop_below}
use Rattle.raft_known_state.proofs.KnownStateLemmas.{StateOf, both_ok, known_in_order, noted_known, noted_still, removed}
use Rattle.raft_known_state.proofs.known_state.KnownState+u64+BasicNode.purge.Goals as goal

pub returns-clause-known : goal.returns-clause-known
returns-clause-known c = λ s k p l t.
    let old = c.args.self.now in
    let upto = c.args.upto.now in
    let gone = c.count_below-gone.result in
    let now : KnownState = record { state = record c.purge_log.new.self { purge_upto = c.or-self.result }; memberships = c.drop_front.new.self; wish = old.wish; highest_term = old.highest_term } in
    let same = c.in_ok-purge_log.ensures.ok in
    let order = known_in_order old s k p in
    both_ok c.refresh_if.result
    (c.refresh_if.ensures.noted
    (subst AreInOrder (sym c.drop_front.ensures) (IsNonDecreasingBy-drop (λ m. next_place m.log_id) gone old.memberships order))
    (λ h. noted_still old now (noted_known old s k) (ap (λ (y : StateOf). y.membership_state) same) (ap (λ (y : StateOf). y.snapshot_meta) same) (ap (λ (y : StateOf). y.committed) same)
    (c.drop_front.ensures ∙ (let none : gone ≡ 0 = grind (arith, nat_tests, h) in ap (λ n. drop n old.memberships) none))))
    c.refresh_if.ensures.rest
    (λ noted both. removed old now c.refresh_if.new.self s k noted both p upto l t (omega arith) refl
    (ap (λ (y : StateOf). record y { purge_upto = c.or-self.result }) same
    ∙ ap (λ goal. record old.state { log_ids = purged old.state.log_ids upto; purged_next = upto.index + 1; purge_upto = goal }) c.or-self.ensures)
    (c.drop_front.ensures ∙ ap (drop gone) (sym c.as_slice.ensures) ∙ c.count_below-gone.ensures.above (subst AreInOrder (sym c.as_slice.ensures) order) ∙ ap (drop_below (upto.index + 1)) c.as_slice.ensures))
