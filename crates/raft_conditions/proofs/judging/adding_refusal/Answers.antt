-- The last group with the newcomers is told by the group and them.
use Rattle.std.proofs.Common.{◌≡◌, ◌+◌, ◌∙◌, ap, refl, sym, subst, [], ◌∷◌, true, false, length}
use Rattle.std.specs.Prelude.{◌&&◌, ◌==◌, count_by, nat_eq, not}
use Rattle.std.specs.List.{list_all}
use Rattle.std.specs.Ordering.{nat_cmp}
use Rattle.std.specs.Cmp.Lexicographic.{pointwise}
use Rattle.raft_quorums.specs.Nodes.{has_id, with_ids}
use Rattle.raft_quorums.specs.Quorum.{last_config, next_configs}
use Rattle.raft_group_step.specs.Limits.{are_few_voters}
use Rattle.raft_group_step.specs.Refusal.{first_of_reasons, unless}
use Rattle.raft_group_step.specs.StepResult.{MembershipRefused, VoterChange}
use Rattle.raft_conditions.specs.Fitting.{are_fit_groups, ids_of, is_fit_group, reason_of_step}
use Rattle.raft_conditions.proofs.FitLemmas.{joined_fit, joined_next, joined_stays, nobody_joined, stays}
use Rattle.raft_conditions.proofs.judging.adding_refusal.Goals as goal

pub returns-then-is_empty : goal.returns-then-is_empty
returns-then-is_empty g c =
    let known = g.S.HasId.has c.args.nodes.now in
    let groups = c.args.groups.now in
    let ids = ids_of c.args.newcomers.now in
    let nobody : (length (last_config groups) == 0) ≡ true =
    subst (λ l. (length l == 0) ≡ true) c.last_group-last.ensures.is (sym c.is_empty.ensures ∙ c.if-is_empty.true) in
    c.step_refusal.ensures
    ∙ ap (λ goal. reason_of_step known groups (next_configs (pointwise nat_eq) groups goal) c.args.fit) (sym (nobody_joined groups ids nobody c.show_rising.ensures))

pub returns : goal.returns
returns g c =
    let known = g.S.HasId.has c.args.nodes.now in
    let groups = c.args.groups.now in
    let ids = ids_of c.args.newcomers.now in
    let last = last_config groups in
    let is = c.last_group-last.ensures.is in
    let rising = c.last_group-last.ensures.rising in
    let more = c.show_rising.ensures in
    let some : (length last == 0) ≡ false =
    subst (λ l. (length l == 0) ≡ false) is (sym c.is_empty.ensures ∙ c.if-is_empty.false) in
    c.step_reason.ensures
    ∙ ap (λ b. first_of_reasons (unless (b && c.args.fit) MembershipRefused ∷ unless c.are_there.result VoterChange ∷ []))
    (c.is_wider_fit.ensures
    ∙ ap (λ l. is_fit_group known l && list_all known ids && are_few_voters (length l + count_by (λ id. not (has_id nat_eq l id)) ids)) is
    ∙ sym (joined_fit known last ids rising more some)
    ∙ sym (joined_next known last ids rising more some groups refl))
    ∙ ap (λ b. first_of_reasons (unless (are_fit_groups known (next_configs (pointwise nat_eq) groups (with_ids nat_cmp last ids)) && c.args.fit) MembershipRefused ∷ unless b VoterChange ∷ []))
    (c.are_there.ensures
    ∙ ap (λ l. (length groups == 1) && list_all (has_id nat_eq l) ids) is
    ∙ sym (joined_stays groups last ids rising more refl)
    ∙ sym (stays (with_ids nat_cmp last ids) groups))
