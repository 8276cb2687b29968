-- A candidate notes the grant. With a quorum it leads, since its log has room then.
use Rattle.std.proofs.Common.{◌∙◌, ap, inl, inr, sym, subst, refl}
use Rattle.std.specs.Prelude.{◌≡◌, ◌<◌, None, Some}
use Rattle.std.proofs.Math.Bool.{true≢false}
use Rattle.std.proofs.lemmas.Result.{on_ok_weaker}
use Rattle.raft_group_step.specs.GroupState.{Candidate, is_candidate}
use Rattle.raft_group_step.specs.StepResult.{in_role}
use Rattle.raft_group_step.specs.Lead.{lead_if}
use Rattle.raft_engine.specs.Standing.{IsStepOf}
use Rattle.raft_engine.proofs.ElectionLemmas.{noted, counted_by, granted_so, known_end, now_granted}
use Rattle.raft_engine.proofs.ClockLemmas.{keeps_same}
use Rattle.raft_engine.proofs.engine.Engine.with_grant.Goals as goal
use Rattle.raft_engine.proofs.engine.Engine.with_grant.Goals.{else-is_quorum-via-then-is_quorum+else-has_room, else-is_quorum-via-else-is_quorum}

pub returns-then-has_room-clause-step : goal.returns-then-has_room-clause-step
returns-then-has_room-clause-step g c = λ x own r step now room.
    let n = c.args.n in
    let w = noted x own c.args.self.now r step c.in-Some.candidate c.grant_by.new.self n c.in-Some.is c.in_ok-grant_by.ensures.notes c.grant_by.ensures.rest in
    let stood = in_role (Candidate (now_granted w.0 n)) r in
    let in_force = c.effective_membership.ensures r.state.stored step.state.knows in
    let counted = counted_by own c.grant_by.new.self r.state.stored (now_granted w.0 n) c.effective_membership.result.now c.is_granted_by-is_quorum.result w.2 in_force c.is_granted_by-is_quorum.ensures in
    let same = granted_so n w.0 r c.is_granted_by-is_quorum.result w.1 counted in
    on_ok_weaker c.begin_lead.result
    (λ h. subst (IsStepOf x own c.begin_lead.new.self) (ap (λ b. lead_if b stood) (sym c.if-is_quorum.true) ∙ same) h)
    (c.begin_lead.ensures.step x own stood (now_granted w.0 n) w.3 refl now)

pub returns-clause-step : goal.returns-clause-step
returns-clause-step g c = λ x own r step now room.
    let n = c.args.n in
    let w = noted x own c.args.self.now r step c.in-Some.candidate c.grant_by.new.self n c.in-Some.is c.in_ok-grant_by.ensures.notes c.grant_by.ensures.rest in
    let stood = in_role (Candidate (now_granted w.0 n)) r in
    let in_force = c.effective_membership.ensures r.state.stored step.state.knows in
    let counted = counted_by own c.grant_by.new.self r.state.stored (now_granted w.0 n) c.effective_membership.result.now c.is_granted_by-is_quorum.result w.2 in_force c.is_granted_by-is_quorum.ensures in
    let same = granted_so n w.0 r c.is_granted_by-is_quorum.result w.1 counted in
    elim c.else-is_quorum.branch [
      | else-is_quorum-via-then-is_quorum+else-has_room v ↦
          absurd (true≢false (sym (v.has_room.ensures.1 (subst (λ place. place < 9223372036854775808) (sym (known_end x own c.args.self.now r step)) (room (ap is_candidate w.1)))) ∙ v.if-has_room.false))
      | else-is_quorum-via-else-is_quorum v ↦ subst (IsStepOf x own _) (ap (λ b. lead_if b stood) (sym v.if-is_quorum.false) ∙ same) w.3
    ]

pub returns-in_default-clause-heard : goal.returns-in_default-clause-heard
returns-in_default-clause-heard g c = inl (keeps_same c.args.self.now.leader)

pub returns-then-has_room-clause-heard : goal.returns-then-has_room-clause-heard
returns-then-has_room-clause-heard g c = on_ok_weaker c.begin_lead.result (λ h. inr h) c.begin_lead.ensures.heard

pub returns-clause-heard : goal.returns-clause-heard
returns-clause-heard g c = inl (keeps_same c.args.self.now.leader)

pub returns-in_default-clause-leads_on : goal.returns-in_default-clause-leads_on
returns-in_default-clause-leads_on g c = λ none. keeps_same c.args.self.now.leader

pub returns-then-has_room-clause-leads_on : goal.returns-then-has_room-clause-leads_on
returns-then-has_room-clause-leads_on g c = λ none. absurd (let no : None ≡ Some c.in-Some.candidate = sym none ∙ c.in-Some.is in cc)

pub returns-clause-leads_on : goal.returns-clause-leads_on
returns-clause-leads_on g c = λ none. keeps_same c.args.self.now.leader
