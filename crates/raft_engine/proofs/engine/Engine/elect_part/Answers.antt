-- The own grant is counted before the others are asked, and once more after that.
use Rattle.std.proofs.Common.{◌≡◌, ◌∙◌, ap, sym, subst, ℕ, ◌∷◌, []}
use Rattle.std.specs.Prelude.{◌<◌, ◌^◌}
use Rattle.std.proofs.lemmas.Result.{on_ok_weaker}
use Rattle.raft_commands.specs.declared.engine_config.EngineConfig.{EngineConfig}
use Rattle.raft_group_step.specs.StoredGroup.{end_place}
use Rattle.raft_group_step.specs.GroupState.{Candidate, GroupState}
use Rattle.raft_group_step.specs.StepResult.{in_role}
use Rattle.raft_group_step.specs.Lead.{with_grant}
use Rattle.raft_group_step.specs.Elect.{stand}
use Rattle.raft_engine.specs.Standing.{IsStepOf}
use Rattle.raft_engine.proofs.ElectionLemmas.{elected, stood_state}
use Rattle.raft_engine.proofs.ClockLemmas.{begins_where_none}
use Rattle.raft_engine.proofs.engine.Engine.elect_part.Goals as goal

pub returns-clause-step : goal.returns-clause-step
returns-clause-step g c = λ x own r step now fits room.
    let stood = c.in_ok-stand.ensures.step x own r step now fits in
    let same : c.stand.new.self.config.id ≡ own = ap (λ (y : EngineConfig ℕ). y.id) stood.state.config in
    let asked = in_role (Candidate (own ∷ [])) (stand own r) in
    on_ok_weaker c.with_grant.result
    (λ h. subst (IsStepOf x own c.with_grant.new.self) (ap (λ n. with_grant n (Candidate (own ∷ [])) asked) same ∙ elected own r) h)
    (c.with_grant.ensures.step x own asked stood (ap (λ (s : GroupState). s.now) (stood_state own r) ∙ now)
    (λ _. subst (λ (s : GroupState). end_place s.stored < 2 ^ 63) (sym (stood_state own r)) room))

pub returns-clause-heard : goal.returns-clause-heard
returns-clause-heard g c =
    on_ok_weaker c.with_grant.result (begins_where_none c.stand.new.self.leader c.with_grant.new.self.leader c.in_ok-stand.ensures.ends) c.with_grant.ensures.heard
