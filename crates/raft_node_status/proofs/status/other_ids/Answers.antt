use Rattle.std.proofs.Common.{◌≡◌, ◌∙◌, ℕ, IfOk, List, Some, ap, map, subst}
use Rattle.raft_group_step.specs.StoredGroup.{membership_in_force}
use Rattle.raft_known_state.specs.KnownState.{others}
use Rattle.raft_node_status.proofs.MemberIds.{same_ids}
use Rattle.raft_node_status.proofs.status.other_ids.Goals as goal

pub returns-in-Some : goal.returns-in-Some
returns-in-Some g c = λ s up at.
    subst (λ (ids : List ℕ). IfOk c.ids_but.result (λ v. v.items ≡ others c.args.node.now.groups.id ids))
    (ap (map {B = ℕ} (λ x. x.0)) c.nodes.ensures
    ∙ same_ids (membership_in_force s.stored) (Some c.in-Some.membership.now) (c.in-Some.ensures.up s up at))
    (rw c.id.ensures at c.ids_but.ensures)
