use Rattle.std.proofs.Common.{◌≡◌, ◌∙◌, ℕ, IfOk, List, Some, None, refl, subst}
use Rattle.raft_group_step.specs.StoredGroup.{membership_in_force}
use Rattle.raft_node_clock.specs.Heard.{heard_at}
use Rattle.raft_node_clock.specs.Quorum.{IsLatestQuorum}
use Rattle.raft_node_clock.proofs.Memberships.{none_lent, same_configs}
use Rattle.raft_node_clock.proofs.view.quorum_heard.Goals as goal

pub returns-in-Some : goal.returns-in-Some
returns-in-Some g c = λ s up at.
    subst (λ (configs : List (List ℕ)). IfOk c.latest_quorum.result (IsLatestQuorum configs (heard_at c.args.node.now.groups.id c.args.now c.args.heards.now)))
    (c.get_joint_config.ensures
    ∙ same_configs (membership_in_force s.stored) (Some c.in-Some.membership.now) (c.in-Some.ensures.up s up at))
    (rw c.id.ensures at c.latest_quorum.ensures)

pub returns-in-None : goal.returns-in-None
returns-in-None g c = λ s up at.
    none_lent (heard_at c.args.node.now.groups.id c.args.now c.args.heards.now) (membership_in_force s.stored) None refl (c.in-None.ensures.up s up at)
