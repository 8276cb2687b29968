-- The greatest log id that may be committed tells the place.
use Rattle.std.proofs.Common.{◌∙◌, ap, sym, subst, OnOk, ℕ}
use Rattle.raft_quorums.specs.Quorum.{is_quorum}
use Rattle.raft_commands.specs.declared.engine_config.EngineConfig.{EngineConfig}
use Rattle.raft_group_step.specs.StepResult.{apply_up_to}
use Rattle.raft_leaders.specs.Accepted.{greatest_accepted}
use Rattle.raft_engine.specs.Following.{EndsWithin}
use Rattle.raft_engine.specs.Standing.{IsStepOf}
use Rattle.raft_engine.proofs.CommitLemmas.{commits, found_within, from_is, wrote_known}
use Rattle.raft_engine.proofs.engine.Engine.commit_as_leader.Goals as goal

pub returns-clause-step : goal.returns-clause-step
returns-clause-step g c = λ x own r step.
    let old = c.args.self.now in
    let l = c.in-Some.leader in
    let voters = c.effective-voters.result.now in
    let found = c.greatest_accepted-greatest.result in
    let from = c.place_after-from.result in
    let behind = from_is x own old r step from c.place_after-from.ensures c.requires in
    let in_force = c.effective-voters.ensures ∙ step.state.knows.in_force in
    let greatest =
    c.greatest_accepted-greatest.ensures.of_log (wrote_known x own old r step l c.in-Some.is from behind)
    ∙ ap (λ (k : EngineConfig ℕ). greatest_accepted k.id l (is_quorum voters.membership.configs) from old.state.state.log_ids) step.state.config in
    let within = subst (λ place. EndsWithin place r.state.stored) (sym c.index.ensures) (found_within x own old r step l c.in-Some.is voters in_force from behind found greatest) in
    subst (λ y. OnOk c.commit_up_to.result (IsStepOf x own c.commit_up_to.new.self y))
    (ap (λ place. apply_up_to place r) c.index.ensures ∙ commits x own old r step l c.in-Some.is voters in_force from behind found greatest)
    (c.commit_up_to.ensures.step x own r step within)
