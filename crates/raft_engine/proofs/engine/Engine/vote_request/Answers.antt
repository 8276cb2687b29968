use Rattle.std.proofs.Common.{◌∙◌, ap, subst}
use Rattle.std.proofs.lemmas.Result.{on_ok_weaker}
use Rattle.raft_group_step.specs.VoteRequest.{judged}
use Rattle.raft_engine.specs.Standing.{IsStepOf}
use Rattle.raft_engine.proofs.VoteLemmas.{judged_by}
use Rattle.raft_progress.proofs.PartsLemmas.{on_ok}
use Rattle.raft_engine.proofs.ClockLemmas.{keeps_then, keeps_untouched}
use Rattle.raft_engine.proofs.engine.Engine.vote_request.Goals as goal

pub returns-clause-step : goal.returns-clause-step
returns-clause-step g c = λ x own r step now.
    let peer = c.args.tx.peer in
    let vote = c.args.req.now.vote in
    let granted = c.may_grant-granted.result in
    let same = judged_by own peer vote granted r ∙ ap (λ b. judged own peer vote b r) (c.may_grant-granted.ensures own r.state step.state now) in
    on_ok_weaker c.answer_vote.result
    (λ h. subst (IsStepOf x own c.answer_vote.new.self) same h)
    (c.answer_vote.ensures.step x own _ (c.in_ok-take_over_if.ensures.step x own r step now))

pub returns-clause-heard : goal.returns-clause-heard
returns-clause-heard g c =
    let taken = c.take_over_if.new.self.leader in
    let answered = c.answer_vote.new.self.leader in
    on_ok c.answer_vote.result
    (keeps_then c.args.self.now.leader taken answered c.in_ok-take_over_if.ensures.heard (keeps_untouched taken answered c.answer_vote.ensures.leader))
