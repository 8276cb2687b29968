-- The memberships that are committed now are noted, where there are others than before.
use Rattle.std.proofs.Common.{◌≡◌, ◌∙◌, ap, sym, subst, take, arith}
use Rattle.std.proofs.lemmas.Bool.Decides.{nat_tests}
use Rattle.raft_values.specs.LogId.{next_place}
use Rattle.raft_known_state.specs.KnownState.{AreInOrder, take_below}
use Rattle.raft_known_state.proofs.KnownStateLemmas.{both_ok, committed_on, noted_known, noted_upto}
use Rattle.raft_known_state.proofs.known_state.KnownState+u64+BasicNode.commit.Goals as goal

pub returns-clause-known : goal.returns-clause-known
returns-clause-known c = λ s k.
    let old = c.args.self.now in
    let before = c.count_committed-before.result in
    let now = c.count_committed-now.result in
    let order = c.show_order.ensures s k in
    both_ok c.refresh_if.result
    (c.refresh_if.ensures.noted order
    (λ h. noted_upto old c.args.upto before now (noted_known old s k)
    (ap (take before) (sym c.as_slice.ensures) ∙ c.count_committed-before.ensures.below (subst AreInOrder (sym c.as_slice.ensures) order) ∙ ap (take_below (next_place old.state.committed)) c.as_slice.ensures)
    (ap (take now) (sym c.as_slice-2.ensures) ∙ c.count_committed-now.ensures.below (subst AreInOrder (sym c.as_slice-2.ensures) order) ∙ ap (take_below (next_place c.args.upto)) c.as_slice-2.ensures)
    (let same : now ≡ before = grind (arith, nat_tests, h) in same)))
    c.refresh_if.ensures.rest
    (λ noted both. committed_on old c.refresh_if.new.self s c.args.upto k noted both)
