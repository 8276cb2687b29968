-- A membership with no voter groups is its nodes.
use Rattle.std.proofs.Common.{◌≡◌, [], ap, sym, ◌∙◌}
use Rattle.raft_group_step.specs.Values.{Membership, after_change}
use Rattle.raft_conditions.proofs.ChangeLemmas.{no_group, nodes_alone}
use Rattle.raft_conditions.proofs.change.changed_membership.Goals as goal

pub returns-then-is_empty : goal.returns-then-is_empty
returns-then-is_empty c =
    let none : c.args.old.now.configs ≡ [] =
    sym c.get_joint_config.ensures
    ∙ no_group c.get_joint_config.result.now (sym c.is_empty.ensures ∙ c.if-is_empty.true)
    in c.in_ok-new.ensures
    ∙ ap (λ (m : Membership). after_change m c.args.change.now) (nodes_alone c.args.old.now c.in_ok-learners_of.field-0 none c.in_ok-learners_of.ensures)
