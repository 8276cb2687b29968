-- The next term's vote is stored, the own grant is noted, and the other voters are asked.
use Rattle.std.proofs.Common.{◌≡◌, ◌∙◌, ap, sym, subst, refl, false, ℕ, ◌+◌, ◌∷◌, [], arith}
use Rattle.std.proofs.lemmas.Result.{on_ok_weaker}
use Rattle.raft_values.specs.declared.vote.Vote.{Vote}
use Rattle.raft_values.specs.Vote.{vote_of}
use Rattle.raft_commands.specs.declared.engine_config.EngineConfig.{EngineConfig}
use Rattle.raft_group_step.specs.declared.vote_message.VoteRequest.{VoteRequest}
use Rattle.raft_group_step.specs.GroupState.{Candidate}
use Rattle.raft_group_step.specs.StepResult.{in_role, step_down, store_vote}
use Rattle.raft_group_step.specs.Elect.{other_voters}
use Rattle.raft_engine.specs.Standing.{IsStepOf, Stands}
use Rattle.raft_engine.proofs.ElectionLemmas.{has_asked, has_stood, own_vote}
use Rattle.raft_engine.proofs.engine.Engine.stand.Goals as goal

pub returns-clause-step : goal.returns-clause-step
returns-clause-step g c = λ x own r step now fits.
    let id : c.args.self.now.config.id ≡ own = ap (λ (y : EngineConfig ℕ). y.id) step.state.config in
    let down = c.in_ok-step_down.ensures.step x own r step in
    let vote = c.new-vote.result in
    let before : c.vote_ref.result.now.leader_id.term ≡ r.state.stored.vote.leader_id.term = ap (λ (v : Vote ℕ). v.leader_id.term) (c.vote_ref.ensures ∙ down.state.knows.vote) in
    let term : c.saturating_add-term.result ≡ r.state.stored.vote.leader_id.term + 1 = omega (arith, c.saturating_add-term.ensures, before, fits) in
    let vote_is : vote ≡ own_vote own r =
    c.new-vote.ensures ∙ ap (λ t. vote_of t c.args.self.now.config.id false) term ∙ ap (λ n. vote_of (r.state.stored.vote.leader_id.term + 1) n false) id in
    let stored = c.in_ok-store_vote.ensures.step x own (step_down r) down refl now in
    let same : c.store_vote.new.self.config.id ≡ own = ap (λ (y : EngineConfig ℕ). y.id) stored.state.config in
    let s = record r.state.stored { vote = vote } in
    let stands : Stands own c.in_ok-candidate.candidate s (own ∷ []) =
    subst (λ n. Stands n c.in_ok-candidate.candidate s (n ∷ [])) same
    (c.in_ok-candidate.ensures s (ap (λ (v : Vote ℕ). v.leader_id.node_id) vote_is ∙ sym same) (ap (λ (v : Vote ℕ). v.committed) vote_is)) in
    let voters = c.as_slice.ensures.value ∙ c.in_ok-voters.ensures s stored.state.knows ∙ ap (λ n. other_voters n r.state.stored) id in
    on_ok_weaker c.ask.result
    (λ h. subst (IsStepOf x own c.ask.new.self) (has_asked own r vote c.as_slice.result.now vote_is voters) h)
    (c.ask.ensures.step x own (in_role (Candidate (own ∷ [])) (store_vote vote (step_down r))) (has_stood x own c.store_vote.new.self r vote stored c.in_ok-candidate.candidate stands)
    (sym (ap (λ (q : VoteRequest ℕ). q.vote) c.new-vote_req.ensures))
    (sym (ap (λ (q : VoteRequest ℕ). q.last_log_id) c.new-vote_req.ensures ∙ c.last_log_id.ensures s stored.state.knows stored.state.order.placed)))

pub returns-clause-ends : goal.returns-clause-ends
returns-clause-ends g c = on_ok_weaker c.ask.result (λ h. h ∙ c.store_vote.ensures.leader ∙ c.in_ok-step_down.ensures.ends) c.ask.ensures.leader
