use Rattle.std.proofs.Common.{◌≤◌, ◌∙◌, ap, sym, subst, take, length, refl, arith}
use Rattle.std.proofs.lemmas.Bool.Decides.{nat_tests}
use Rattle.std.proofs.lemmas.List.{take_all}
use Rattle.std.proofs.lemmas.List.Sorted.{IsNonDecreasingBy-take}
use Rattle.raft_values.specs.LogId.{next_place}
use Rattle.raft_known_state.specs.KnownState.{AreInOrder, KnownState, take_below}
use Rattle.raft_known_state.proofs.KnownStateLemmas.{both_ok, cut, known_in_order, noted_known, noted_still}
use Rattle.raft_known_state.proofs.known_state.KnownState+u64+BasicNode.truncate.Goals as goal

pub returns-clause-known : goal.returns-clause-known
returns-clause-known c = λ s k p l.
    let old = c.args.self.now in
    let kept = c.count_below-kept.result in
    let now : KnownState = record { state = record old.state { log_ids = c.truncate.new.self }; memberships = c.truncate-2.new.self; wish = old.wish; highest_term = old.highest_term } in
    let order = known_in_order old s k p in
    both_ok c.refresh_if.result
    (c.refresh_if.ensures.noted
    (subst AreInOrder (sym c.truncate-2.ensures) (IsNonDecreasingBy-take (λ m. next_place m.log_id) kept old.memberships order))
    (λ h. noted_still old now (noted_known old s k) refl refl refl
    (c.truncate-2.ensures ∙ (let all : length old.memberships ≤ kept = grind (arith, nat_tests, h, c.len.ensures) in take_all kept old.memberships all))))
    c.refresh_if.ensures.rest
    (λ noted both. cut old now c.refresh_if.new.self s k noted both p c.args.since l (omega arith) refl
    (ap (λ ids. record old.state { log_ids = ids }) c.truncate.ensures)
    (c.truncate-2.ensures ∙ ap (take kept) (sym c.as_slice.ensures) ∙ c.count_below-kept.ensures.below (subst AreInOrder (sym c.as_slice.ensures) order) ∙ ap (take_below c.args.since) c.as_slice.ensures))
