use Rattle.std.proofs.Common.{◌∙◌, ap, sym, [], ◌∷◌}
use Rattle.std.specs.Prelude.{◌&&◌, nat_eq}
use Rattle.std.specs.Cmp.Lexicographic.{pointwise}
use Rattle.raft_quorums.specs.Quorum.{next_configs}
use Rattle.raft_group_step.specs.Refusal.{first_of_reasons, unless}
use Rattle.raft_group_step.specs.StepResult.{MembershipRefused, VoterChange}
use Rattle.raft_conditions.specs.Fitting.{are_fit_groups, goal_of}
use Rattle.raft_conditions.proofs.FitLemmas.{next_fit, stays}
use Rattle.raft_conditions.proofs.judging.step_refusal.Goals as goal

pub returns : goal.returns
returns g c =
    let known = g.S.HasId.has c.args.nodes.now in
    let groups = c.args.groups.now in
    let goal = goal_of c.args.goal.now in
    c.step_reason.ensures
    ∙ ap (λ b. first_of_reasons (unless (b && c.args.fit) MembershipRefused ∷ unless c.is_only_group.result VoterChange ∷ []))
    (c.is_step_fit.ensures ∙ sym (next_fit goal known groups))
    ∙ ap (λ b. first_of_reasons (unless (are_fit_groups known (next_configs (pointwise nat_eq) groups goal) && c.args.fit) MembershipRefused ∷ unless b VoterChange ∷ []))
    (c.is_only_group.ensures ∙ sym (stays goal groups))
