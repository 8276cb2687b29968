use Rattle.std.proofs.Common.{◌≡◌, ◌∙◌, ap₂, sym, subst, false}
use Rattle.raft_group_step.specs.Values.{vote_lt}
use Rattle.raft_group_step.specs.StepResult.{take_over}
use Rattle.raft_engine.specs.Standing.{IsStepOf}
use Rattle.raft_engine.proofs.OtherVotes.{follows_after, in_force_after}
use Rattle.raft_progress.proofs.PartsLemmas.{on_ok}
use Rattle.raft_engine.proofs.ClockLemmas.{keeps_then, keeps_untouched}
use Rattle.raft_engine.proofs.engine.Engine.append_request.Goals as goal

pub returns-clause-step : goal.returns-clause-step
returns-clause-step g c = λ x own r m step now says repeats another follow.
    let no_lower : vote_lt m.vote r.state.stored.vote ≡ false =
    ap₂ vote_lt (sym says.vote) (sym (c.vote_ref.ensures ∙ step.state.knows.vote)) ∙ sym c.is_lower-is_lower.ensures ∙ c.if-is_lower.false in
    let taken = subst (λ v. IsStepOf x own c.take_over.new.self (take_over v r)) says.vote (c.in_ok-take_over.ensures.step x own r step now) in
    let follows = follows_after x own c.args.self.now r m.vote step another no_lower in
    rw no_lower (c.join_entries.ensures.step x own (take_over m.vote r) m taken follows (in_force_after m.vote r no_lower) says repeats follow)

pub returns-then-is_lower-clause-heard : goal.returns-then-is_lower-clause-heard
returns-then-is_lower-clause-heard g c =
    on_ok c.answer_append.result (keeps_untouched c.args.self.now.leader c.answer_append.new.self.leader c.answer_append.ensures.leader)

pub returns-clause-heard : goal.returns-clause-heard
returns-clause-heard g c =
    let taken = c.take_over.new.self.leader in
    let joined = c.join_entries.new.self.leader in
    on_ok c.join_entries.result
    (keeps_then c.args.self.now.leader taken joined c.in_ok-take_over.ensures.heard (keeps_untouched taken joined c.join_entries.ensures.leader))
