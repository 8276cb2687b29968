-- Whether what a change makes of a membership is valid and within the limits, told without making it.
use Rattle.std.specs.Prelude.{ℕ, Bool, ◌&&◌, ◌||◌, not, ◌==◌, nat_eq, List, [], ◌∷◌, length, map, Option}
use Rattle.std.specs.List.{list_all, list_any}
use Rattle.std.specs.Cmp.Lexicographic.{pointwise}
use Rattle.raft_quorums.specs.Quorum.{last_config}
use Rattle.raft_membership.specs.MembershipChange.{without_ids}
use Rattle.raft_group_step.specs.Limits.{are_few_groups, are_few_nodes, are_few_voters, is_short_address}
use Rattle.raft_group_step.specs.Refusal.{first_of_reasons, unless}
use Rattle.raft_group_step.specs.StepResult.{RefusalReason, MembershipRefused, VoterChange}
use Rattle.raft_group_step.specs.Values.{configs_eq}
use Rattle.raft_conditions.specs.declared.goal.Newcomers.{Newcomers}
use Rattle.raft_conditions.specs.declared.goal.Newcomers.TheVariants.{Ids, Nodes}
use Rattle.raft_conditions.specs.declared.goal.Goal.{Goal}
use Rattle.raft_conditions.specs.declared.goal.Goal.TheVariants.{Just, Stayers}

-- the ids that are to come in
abbrev pub ids_of : Newcomers → List ℕ
ids_of (Ids ids) = ids.now
ids_of (Nodes nodes) = map (λ (x : ℕ × List ℕ). x.0) nodes.now

-- the voter group that is asked for
abbrev pub goal_of : Goal → List ℕ
goal_of (Just newcomers) = ids_of newcomers
goal_of (Stayers group leavers) = without_ids nat_eq group.now leavers.now

-- the group has somebody, not too many, and each of them is known
abbrev pub is_fit_group : (ℕ → Bool) → List ℕ → Bool
is_fit_group known group = not (length group == 0) && are_few_voters (length group) && list_all known group

-- there are not too many groups, and each is fit
abbrev pub are_fit_groups : (ℕ → Bool) → List (List ℕ) → Bool
are_fit_groups known configs = are_few_groups configs && list_all (is_fit_group known) configs

-- the last group, if there is one, is fit
abbrev pub is_last_fit : (ℕ → Bool) → List (List ℕ) → Bool
is_last_fit known configs = length configs == 0 || is_fit_group known (last_config configs)

-- the goal is a voter group already
abbrev pub is_there : List ℕ → List (List ℕ) → Bool
is_there goal configs = list_any (λ group. pointwise nat_eq group goal) configs

-- there are not too many nodes, and each address is short
abbrev pub are_fit_nodes : List (ℕ × List ℕ) → Bool
are_fit_nodes nodes =
    are_few_nodes (length nodes) && list_all (λ (x : ℕ × List ℕ). is_short_address x.1) nodes

-- why these voter groups don't follow the old ones, where these nodes are known
abbrev pub reason_of_step : (ℕ → Bool) → List (List ℕ) → List (List ℕ) → Bool → Option RefusalReason
reason_of_step known old new fit_nodes =
    first_of_reasons
    (unless (are_fit_groups known new && fit_nodes) MembershipRefused ∷ unless (configs_eq old new) VoterChange ∷ [])
