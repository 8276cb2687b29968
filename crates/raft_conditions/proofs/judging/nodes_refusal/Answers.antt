use Rattle.std.proofs.Common.{◌∙◌, ap, sym, [], ◌∷◌, true}
use Rattle.std.specs.Prelude.{◌&&◌}
use Rattle.raft_group_step.specs.Refusal.{first_of_reasons, unless}
use Rattle.raft_group_step.specs.StepResult.{MembershipRefused, VoterChange}
use Rattle.raft_conditions.specs.Fitting.{are_fit_groups}
use Rattle.raft_conditions.proofs.FitLemmas.{groups_themselves}
use Rattle.raft_conditions.proofs.judging.nodes_refusal.Goals as goal

pub returns : goal.returns
returns g c =
    let known = g.S.HasId.has c.args.nodes.now in
    let groups = c.args.old.now.configs in
    c.step_reason.ensures
    ∙ ap (λ b. first_of_reasons (unless (b && c.args.fit) MembershipRefused ∷ unless true VoterChange ∷ []))
    (c.are_fit_groups.ensures ∙ ap (are_fit_groups known) c.get_joint_config.ensures)
    ∙ ap (λ b. first_of_reasons (unless (are_fit_groups known groups && c.args.fit) MembershipRefused ∷ unless b VoterChange ∷ [])) (sym (groups_themselves groups))
