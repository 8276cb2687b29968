use Rattle.std.proofs.Common.{◌≡◌, ◌∙◌, ap, sym, refl, true, false}
use Rattle.raft_group_step.specs.Values.{vote_lt}
use Rattle.raft_group_step.specs.StepResult.{step_down}
use Rattle.raft_progress.proofs.PartsLemmas.{on_ok}
use Rattle.raft_engine.proofs.ClockLemmas.{keeps_same, keeps_then, keeps_untouched}
use Rattle.raft_engine.proofs.engine.Engine.take_over_greater.Goals as goal

pub returns-then-is_lower-clause-step : goal.returns-then-is_lower-clause-step
returns-then-is_lower-clause-step g c = λ x own r step now.
    let greater : vote_lt r.state.stored.vote c.args.vote ≡ true =
    ap (λ v. vote_lt v c.args.vote) (sym (c.vote_ref.ensures ∙ step.state.knows.vote)) ∙ sym c.is_lower.ensures ∙ c.if-is_lower.true in
    rw greater (c.store_vote.ensures.step x own (step_down r) (c.in_ok-step_down.ensures.step x own r step) refl now)

pub returns-clause-step : goal.returns-clause-step
returns-clause-step g c = λ x own r step now.
    let no_greater : vote_lt r.state.stored.vote c.args.vote ≡ false =
    ap (λ v. vote_lt v c.args.vote) (sym (c.vote_ref.ensures ∙ step.state.knows.vote)) ∙ sym c.is_lower.ensures ∙ c.if-is_lower.false in
    rw no_greater step

pub returns-then-is_lower-clause-heard : goal.returns-then-is_lower-clause-heard
returns-then-is_lower-clause-heard g c =
    let old = c.args.self.now.leader in
    let stepped = c.step_down.new.self.leader in
    on_ok c.store_vote.result
    (keeps_then old stepped c.store_vote.new.self.leader c.in_ok-step_down.ensures.heard (keeps_untouched stepped c.store_vote.new.self.leader c.store_vote.ensures.leader))

pub returns-clause-heard : goal.returns-clause-heard
returns-clause-heard g c = keeps_same c.args.self.now.leader
