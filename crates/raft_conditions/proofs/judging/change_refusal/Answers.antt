-- What each change asks for is told by its parts.
use Rattle.std.proofs.Common.{◌∙◌, ap, refl, sym, ℕ, List, map}
use Rattle.std.proofs.lemmas.Bool.{eqb-true}
use Rattle.std.proofs.lemmas.Map.Lookups.{exact_unsigned}
use Rattle.std.specs.Prelude.{◌&&◌, ◌||◌, nat_eq, not}
use Rattle.std.specs.Ordering.{nat_cmp}
use Rattle.std.specs.Cmp.Lexicographic.{pointwise}
use Rattle.raft_quorums.specs.Nodes.{has_id, has_node, with_ids}
use Rattle.raft_quorums.specs.Quorum.{last_config, next_configs}
use Rattle.raft_membership.specs.MembershipChange.{without_ids}
use Rattle.raft_membership.specs.declared.change_members.ChangeMembers.TheVariants.{AddVoterIds, AddVoters, RemoveVoters, ReplaceAllVoters, AddNodes, SetNodes, RemoveNodes, ReplaceAllNodes}
use Rattle.raft_membership.proofs.FaultLemmas.{has_with_new_nodes, has_with_nodes, has_without_nodes}
use Rattle.raft_group_step.specs.Values.{after_change}
use Rattle.raft_conditions.specs.Fitting.{are_fit_nodes, reason_of_step}
use Rattle.raft_conditions.proofs.FitLemmas.{told}
use Rattle.raft_conditions.proofs.judging.change_refusal.Goals as goal

pub returns-in-AddVoterIds : goal.returns-in-AddVoterIds
returns-in-AddVoterIds c =
    let old = c.args.old.now in
    let ids = c.in-AddVoterIds.ids in
    let fit = c.are_fit_now.result in
    rw c.in-AddVoterIds.is
    (c.adding_refusal.ensures
    ∙ ap (λ groups. reason_of_step (has_node nat_eq old.nodes) groups (next_configs (pointwise nat_eq) groups (with_ids nat_cmp (last_config groups) ids)) fit) c.get_joint_config-groups.ensures
    ∙ told old (after_change old (AddVoterIds ids)) (has_node nat_eq old.nodes) fit (λ k. refl) c.are_fit_now.ensures)

pub returns-in-AddVoters : goal.returns-in-AddVoters
returns-in-AddVoters c =
    let old = c.args.old.now in
    let more = c.in-AddVoters.more in
    let fit = c.are_fit_with_new-fit.result in
    let known = λ (id : ℕ). has_node nat_eq old.nodes id || has_node nat_eq more id in
    rw c.in-AddVoters.is
    (c.adding_refusal-in-AddVoters.ensures
    ∙ ap (λ groups. reason_of_step known groups (next_configs (pointwise nat_eq) groups (with_ids nat_cmp (last_config groups) (map (λ (x : ℕ × List ℕ). x.0) more))) fit) c.get_joint_config-groups.ensures
    ∙ told old (after_change old (AddVoters more)) known fit (λ k. sym (has_with_new_nodes nat_eq nat_cmp exact_unsigned eqb-true old.nodes more k)) c.are_fit_with_new-fit.ensures)

pub returns-in-RemoveVoters : goal.returns-in-RemoveVoters
returns-in-RemoveVoters c =
    let old = c.args.old.now in
    let ids = c.in-RemoveVoters.ids in
    let fit = c.are_fit_now-in-RemoveVoters.result in
    let known = has_node nat_eq old.nodes in
    rw c.in-RemoveVoters.is
    (c.step_refusal.ensures
    ∙ ap (λ l. reason_of_step known c.get_joint_config-groups.result.now (next_configs (pointwise nat_eq) c.get_joint_config-groups.result.now (without_ids nat_eq l ids)) fit) c.last_group.ensures.is
    ∙ ap (λ groups. reason_of_step known groups (next_configs (pointwise nat_eq) groups (without_ids nat_eq (last_config groups) ids)) fit) c.get_joint_config-groups.ensures
    ∙ told old (after_change old (RemoveVoters ids)) known fit (λ k. refl) c.are_fit_now-in-RemoveVoters.ensures)

pub returns-in-ReplaceAllVoters : goal.returns-in-ReplaceAllVoters
returns-in-ReplaceAllVoters c =
    let old = c.args.old.now in
    let ids = c.in-ReplaceAllVoters.ids in
    let fit = c.are_fit_now-in-ReplaceAllVoters.result in
    let known = has_node nat_eq old.nodes in
    rw c.in-ReplaceAllVoters.is
    (c.step_refusal-in-ReplaceAllVoters.ensures
    ∙ ap (λ groups. reason_of_step known groups (next_configs (pointwise nat_eq) groups ids) fit) c.get_joint_config-groups.ensures
    ∙ told old (after_change old (ReplaceAllVoters ids)) known fit (λ k. refl) c.are_fit_now-in-ReplaceAllVoters.ensures)

pub returns-in-AddNodes : goal.returns-in-AddNodes
returns-in-AddNodes c =
    let old = c.args.old.now in
    let more = c.in-AddNodes.more in
    rw c.in-AddNodes.is
    (c.nodes_refusal.ensures
    ∙ told old (after_change old (AddNodes more)) (λ id. has_node nat_eq old.nodes id || has_node nat_eq more id) c.are_fit_with_new.result
    (λ k. sym (has_with_new_nodes nat_eq nat_cmp exact_unsigned eqb-true old.nodes more k)) c.are_fit_with_new.ensures)

pub returns-in-SetNodes : goal.returns-in-SetNodes
returns-in-SetNodes c =
    let old = c.args.old.now in
    let more = c.in-SetNodes.more in
    rw c.in-SetNodes.is
    (c.nodes_refusal-in-SetNodes.ensures
    ∙ told old (after_change old (SetNodes more)) (λ id. has_node nat_eq old.nodes id || has_node nat_eq more id) c.are_fit_with.result
    (λ k. sym (has_with_nodes nat_eq nat_cmp exact_unsigned old.nodes more k)) c.are_fit_with.ensures)

pub returns-in-RemoveNodes : goal.returns-in-RemoveNodes
returns-in-RemoveNodes c =
    let old = c.args.old.now in
    let ids = c.in-RemoveNodes.ids in
    rw c.in-RemoveNodes.is
    (c.nodes_refusal-in-RemoveNodes.ensures
    ∙ told old (after_change old (RemoveNodes ids)) (λ id. has_node nat_eq old.nodes id && not (has_id nat_eq ids id)) c.are_fit_without.result
    (λ k. sym (has_without_nodes nat_eq eqb-true old.nodes ids k)) c.are_fit_without.ensures)

pub returns-in-ReplaceAllNodes : goal.returns-in-ReplaceAllNodes
returns-in-ReplaceAllNodes c =
    let old = c.args.old.now in
    let others = c.in-ReplaceAllNodes.others in
    rw c.in-ReplaceAllNodes.is
    (c.nodes_refusal-in-ReplaceAllNodes.ensures
    ∙ told old (after_change old (ReplaceAllNodes others)) (has_node nat_eq others) c.are_fit_nodes.result (λ k. refl)
    (c.are_fit_nodes.ensures ∙ ap are_fit_nodes c.as_slice.ensures.nodes))
