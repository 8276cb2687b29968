-- A leader purges what it wished to, unless a request needs it.
use Rattle.std.proofs.Common.{◌∙◌, ap, sym, subst, refl, true, false, not, OnOk, None}
use Rattle.raft_group_step.specs.Lead.{with_wish}
use Rattle.raft_known_state.specs.KnownState.{KnownState, Knows}
use Rattle.raft_engine.specs.Standing.{IsStepOf}
use Rattle.raft_engine.proofs.PurgeLemmas.{as_wished, lead_now, others_wait, wish_is, wished}
use Rattle.raft_engine.proofs.ClockLemmas.{keeps_same}
use Rattle.raft_engine.proofs.engine.Engine.purge_as_wished.Goals as goal

pub returns-clause-step : goal.returns-clause-step
returns-clause-step g c = λ x own r step fits may.
    let old = c.args.self.now in
    let upto = c.in-Some.wish in
    let some = c.is_none.ensures ∙ ap not c.if-is_none.false in
    let now = lead_now x own old r step upto c.in-Some.is some in
    let free = sym (c.is_kept.ensures own r.state now.0 step.state now.1) ∙ c.if-is_kept.false in
    let knows = subst (λ (y : KnownState). Knows y r.state.stored) c.set_wish.ensures.rest (c.set_wish.ensures.known r.state.stored step.state.knows) in
    let ends = wished x own old _ r step None None c.set_wish.new.self.state.purge_upto (ap (λ (y : KnownState). record old { state = y }) c.set_wish.ensures.rest) knows refl in
    let purges = c.purge_up_to.ensures.step x own (with_wish None r) ends fits (may upto.index (wish_is x own old r step upto c.in-Some.is some)) in
    subst (λ y. OnOk c.purge_up_to.result (IsStepOf x own c.purge_up_to.new.self y)) (sym (as_wished x own old r step upto c.in-Some.is some false free)) purges

pub returns-then-is_kept-clause-step : goal.returns-then-is_kept-clause-step
returns-then-is_kept-clause-step g c = λ x own r step fits may.
    let old = c.args.self.now in
    let upto = c.in-Some.wish in
    let some = c.is_none.ensures ∙ ap not c.if-is_none.false in
    let now = lead_now x own old r step upto c.in-Some.is some in
    let kept = sym (c.is_kept.ensures own r.state now.0 step.state now.1) ∙ c.if-is_kept.true in
    subst (IsStepOf x own old) (sym (as_wished x own old r step upto c.in-Some.is some true kept)) step

pub returns-then-is_none-clause-step : goal.returns-then-is_none-clause-step
returns-then-is_none-clause-step g c = λ x own r step fits may.
    subst (IsStepOf x own c.args.self.now) (sym (others_wait x own c.args.self.now r step (c.is_none.ensures ∙ ap not c.if-is_none.true))) step

pub returns-clause-heard : goal.returns-clause-heard
returns-clause-heard g c = c.purge_up_to.ensures.heard

pub returns-then-is_kept-clause-heard : goal.returns-then-is_kept-clause-heard
returns-then-is_kept-clause-heard g c = keeps_same c.args.self.now.leader

pub returns-then-is_none-clause-heard : goal.returns-then-is_none-clause-heard
returns-then-is_none-clause-heard g c = keeps_same c.args.self.now.leader

pub returns-in_default-clause-heard : goal.returns-in_default-clause-heard
returns-in_default-clause-heard g c = keeps_same c.args.self.now.leader
