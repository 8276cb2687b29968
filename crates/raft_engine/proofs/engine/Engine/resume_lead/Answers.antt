-- A committed vote of the own node leads on, and another one doesn't.
use Rattle.std.proofs.Common.{ℕ, ◌∙◌, ◌<◌, ap, inl, inr, sym, subst, refl}
use Rattle.std.proofs.Math.Bool.{true≢false}
use Rattle.std.proofs.lemmas.Result.{on_ok_weaker}
use Rattle.raft_values.specs.declared.vote.Vote.{Vote}
use Rattle.raft_group_step.specs.Lead.{new_lead}
use Rattle.raft_engine.specs.Standing.{IsStepOf, Leads}
use Rattle.raft_engine.proofs.ElectionLemmas.{known_end}
use Rattle.raft_engine.proofs.OpeningLemmas.{committed_then, follows_on, lead_resumed, leads_on, own_then, own_vote_known, stands_nowhere}
use Rattle.raft_progress.proofs.PartsLemmas.{on_ok}
use Rattle.raft_engine.proofs.ClockLemmas.{keeps_same}
use Rattle.raft_engine.proofs.engine.Engine.resume_lead.Goals as goal
use Rattle.raft_engine.proofs.engine.Engine.resume_lead.Goals.{then-not-leads_on-via-then-not-leads_on, then-not-leads_on-via-else-not-leads_on+then-not-has_room}

pub returns-then-not-leads_on-clause-step : goal.returns-then-not-leads_on-clause-step
returns-then-not-leads_on-clause-step g c = λ x own r step empty turn follows room.
    let e = c.args.self.now in
    let mine = own_vote_known x own e r c.vote_ref.result.now c.leads_under-leads_on.result step c.vote_ref.ensures c.leads_under-leads_on.ensures in
    elim c.then-not-leads_on.branch [
      | then-not-leads_on-via-then-not-leads_on w ↦ subst (IsStepOf x own e) (follows_on own r (sym mine ∙ w.if-not-leads_on.true)) step
      | then-not-leads_on-via-else-not-leads_on+then-not-has_room w ↦
          absurd (true≢false (sym (w.has_room.ensures.1 (subst (λ place. place < 9223372036854775808) (sym (known_end x own e r step)) room)) ∙ w.if-not-has_room.true))
    ]

pub returns-clause-step : goal.returns-clause-step
returns-clause-step g c = λ x own r step empty turn follows room.
    let e = c.args.self.now in
    let s = r.state.stored in
    let vote = c.vote_ref.result.now in
    let voted = c.vote_ref.ensures ∙ step.state.knows.vote in
    let mine = sym (own_vote_known x own e r vote c.leads_under-leads_on.result step c.vote_ref.ensures c.leads_under-leads_on.ensures) ∙ c.if-not-leads_on.false in
    let leads =
    subst (λ (v : Vote ℕ). Leads own c.in_ok-leader.leader (record s { vote = v }) (new_lead s)) voted
    (c.in_ok-leader.ensures.leads own s step.state.knows step.state.order.placed
    (ap (λ (v : Vote ℕ). v.leader_id.node_id) voted ∙ own_then own s.vote mine) (ap (λ (v : Vote ℕ). v.committed) voted ∙ committed_then own s.vote mine)) in
    on_ok_weaker c.push_command.result
    (λ pushed.
    subst (IsStepOf x own _) (leads_on own r mine)
    (lead_resumed x own e _ r step c.in_ok-leader.leader empty turn follows refl refl refl
    (stands_nowhere own e.leader e.candidate s r.state.role follows step.state.role) refl pushed leads))
    c.push_command.ensures.ok

pub returns-then-not-leads_on-clause-heard : goal.returns-then-not-leads_on-clause-heard
returns-then-not-leads_on-clause-heard g c = inl (keeps_same c.args.self.now.leader)

pub returns-clause-heard : goal.returns-clause-heard
returns-clause-heard g c = on_ok c.push_command.result (inr c.in_ok-leader.ensures.heard)
