-- A greater place is wished for.
use Rattle.std.proofs.Common.{◌≡◌, ◌<◌, ◌≤◌, ◌∙◌, ap, sym, subst, refl, arith, true, false, nat_lt, Some}
use Rattle.std.proofs.lemmas.Bool.Decides.{nat_tests}
use Rattle.raft_group_step.specs.StoredGroup.{first_place}
use Rattle.raft_group_step.specs.StepResult.{is_within, later_place}
use Rattle.raft_known_state.specs.KnownState.{KnownState, Knows}
use Rattle.raft_engine.proofs.FollowingLemmas.{later_more, later_same}
use Rattle.raft_engine.proofs.PurgeLemmas.{wish_found, wished}
use Rattle.raft_engine.proofs.engine.Engine.wish_to_purge.Goals as goal

pub returns-clause-step : goal.returns-clause-step
returns-clause-step g c = λ x own r step covered.
    let s = r.state.stored in
    let first = c.first_place.ensures s step.state.knows in
    let above : first_place s ≤ c.args.place = omega (arith, first, c.if-place-first_place.false) in
    let in_log : nat_lt c.args.place (first_place s) ≡ false = grind (arith, nat_tests, above) in
    let greater : is_within c.args.place r.state.wish ≡ false = ap (is_within c.args.place) (sym step.state.wish) ∙ sym c.reaches.ensures ∙ c.if-reaches.false in
    let later = later_more r.state.wish c.args.place greater in
    let wish = c.get_log_id-wish.result in
    let found = wish_found r.state c.args.place wish step.state.order above covered (c.get_log_id-wish.ensures s step.state.knows step.state.order.placed) in
    let knows = subst (λ (y : KnownState). Knows y s) c.set_wish.ensures.rest (c.set_wish.ensures.known s step.state.knows) in
    rw in_log (wished x own c.args.self.now _ r step (later_place r.state.wish (Some c.args.place)) wish c.set_wish.new.self.state.purge_upto
    (ap (λ (y : KnownState). record c.args.self.now { state = y }) c.set_wish.ensures.rest) knows (found ∙ sym later))

pub returns-then-place-first_place-clause-step : goal.returns-then-place-first_place-clause-step
returns-then-place-first_place-clause-step g c = λ x own r step covered.
    let first = c.first_place.ensures r.state.stored step.state.knows in
    let below : c.args.place < first_place r.state.stored = omega (arith, first, c.if-place-first_place.true) in
    let gone : nat_lt c.args.place (first_place r.state.stored) ≡ true = grind (arith, nat_tests, below) in
    rw gone step

pub returns-then-reaches-clause-step : goal.returns-then-reaches-clause-step
returns-then-reaches-clause-step g c = λ x own r step covered.
    let s = r.state.stored in
    let old = c.args.self.now in
    let place = c.args.place in
    let first = c.first_place.ensures s step.state.knows in
    let above : first_place s ≤ place = omega (arith, first, c.if-place-first_place.false) in
    let in_log : nat_lt place (first_place s) ≡ false = grind (arith, nat_tests, above) in
    let reached : is_within place r.state.wish ≡ true = ap (is_within place) (sym step.state.wish) ∙ sym c.reaches.ensures ∙ c.if-reaches.true in
    let later = later_same r.state.wish (Some place) (λ p e. let same : place ≡ p = cc e in subst (λ n. is_within n r.state.wish ≡ true) same reached) in
    rw in_log (wished x own old old r step (later_place r.state.wish (Some place)) old.state.wish old.state.state.purge_upto refl step.state.knows (step.state.wish ∙ sym later))
