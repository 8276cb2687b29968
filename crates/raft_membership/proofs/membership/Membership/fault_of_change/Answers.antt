use Rattle.std.proofs.Common.{◌≡◌, map, ap, ◌∙◌}
use Rattle.std.specs.Prelude.{◌||◌}
use Rattle.std.specs.Cmp.Lexicographic.{pointwise}
use Rattle.raft_quorums.specs.Nodes.{has_node, with_ids}
use Rattle.raft_quorums.specs.Quorum.{last_config, next_configs}
use Rattle.raft_membership.specs.declared.change_members.ChangeMembers.TheVariants.{AddVoterIds, ReplaceAllVoters}
use Rattle.raft_membership.specs.MembershipChange.{fault_after, without_ids}
use Rattle.raft_membership.specs.Validity.{groups_fault}
use Rattle.std.specs.declared.cmp.Ordering.TheVariants.{Equal}
use Rattle.std.specs.Ordering.{is_eq}
use Rattle.raft_membership.proofs.FaultLemmas.{told-replace, told-add_voters, told-add, told-set, told-remove}
use Rattle.raft_membership.proofs.membership.Membership.fault_of_change.Given as given
use Rattle.raft_membership.proofs.membership.Membership.fault_of_change.Goals as goal

same : (g : given.Over) (x y : _) → g.NID.Ord.cmp x y ≡ Equal → x ≡ y
same g x y e = g.met.NID.NodeIdEssential.equal_is_same x y (g.met.NID.Ord.matches_eq x y ∙ ap is_eq e)

pub returns-in-AddVoterIds : goal.returns-in-AddVoterIds
returns-in-AddVoterIds g c = λ retain.
    let eq = g.NID.PartialEq.eq in
    let cmp = g.NID.Ord.cmp in
    let m = c.args.self.now in
    rw c.in-AddVoterIds.is
    (c.fault_of_adding.ensures
    ∙ told-replace eq cmp g.met.NID.Eq.laws.refl g.met.NID.NodeIdEssential.equal_is_same (same g) m retain (with_ids cmp (last_config m.configs) c.as_slice.result.now)
    ∙ ap (λ ids. fault_after eq cmp m (AddVoterIds ids) retain) c.as_slice.ensures.ids)

pub returns-in-AddVoters : goal.returns-in-AddVoters
returns-in-AddVoters g c = λ retain.
    let eq = g.NID.PartialEq.eq in
    let cmp = g.NID.Ord.cmp in
    let m = c.args.self.now in
    let more = c.in-AddVoters.more in
    rw c.in-AddVoters.is
    (c.fault_of_adding-in-AddVoters.ensures
    ∙ ap (λ nodes. groups_fault cmp (λ id. has_node eq m.nodes id || has_node eq more id) (next_configs (pointwise eq) m.configs (with_ids cmp (last_config m.configs) (map (λ x. x.0) nodes)))) c.as_slice-in-AddVoters.ensures.nodes
    ∙ told-add_voters eq cmp g.met.NID.Eq.laws.refl g.met.NID.NodeIdEssential.equal_is_same (same g) m retain more)

pub returns-in-RemoveVoters : goal.returns-in-RemoveVoters
returns-in-RemoveVoters g c = λ retain.
    let eq = g.NID.PartialEq.eq in
    let cmp = g.NID.Ord.cmp in
    let m = c.args.self.now in
    let leavers = c.in-RemoveVoters.leavers in
    rw c.in-RemoveVoters.is
    (c.step_fault.ensures
    ∙ told-replace eq cmp g.met.NID.Eq.laws.refl g.met.NID.NodeIdEssential.equal_is_same (same g) m retain (without_ids eq c.last-group.result.now leavers)
    ∙ ap (λ l. fault_after eq cmp m (ReplaceAllVoters (without_ids eq l leavers)) retain) c.last-group.ensures)

pub returns-in-ReplaceAllVoters : goal.returns-in-ReplaceAllVoters
returns-in-ReplaceAllVoters g c = λ retain.
    let eq = g.NID.PartialEq.eq in
    let cmp = g.NID.Ord.cmp in
    let m = c.args.self.now in
    rw c.in-ReplaceAllVoters.is
    (c.step_fault-in-ReplaceAllVoters.ensures
    ∙ told-replace eq cmp g.met.NID.Eq.laws.refl g.met.NID.NodeIdEssential.equal_is_same (same g) m retain c.as_slice-in-ReplaceAllVoters.result.now
    ∙ ap (λ ids. fault_after eq cmp m (ReplaceAllVoters ids) retain) c.as_slice-in-ReplaceAllVoters.ensures.ids)

pub returns-in-AddNodes : goal.returns-in-AddNodes
returns-in-AddNodes g c = λ retain.
    rw c.in-AddNodes.is
    (c.fault_with.ensures
    ∙ told-add g.NID.PartialEq.eq g.NID.Ord.cmp g.met.NID.Eq.laws.refl g.met.NID.NodeIdEssential.equal_is_same (same g) c.args.self.now retain _)

pub returns-in-SetNodes : goal.returns-in-SetNodes
returns-in-SetNodes g c = λ retain.
    rw c.in-SetNodes.is
    (c.fault_with-in-SetNodes.ensures
    ∙ told-set g.NID.PartialEq.eq g.NID.Ord.cmp g.met.NID.Eq.laws.refl g.met.NID.NodeIdEssential.equal_is_same (same g) c.args.self.now retain _)

pub returns-in-RemoveNodes : goal.returns-in-RemoveNodes
returns-in-RemoveNodes g c = λ retain.
    rw c.in-RemoveNodes.is
    (c.fault_with-in-RemoveNodes.ensures
    ∙ told-remove g.NID.PartialEq.eq g.NID.Ord.cmp g.met.NID.Eq.laws.refl g.met.NID.NodeIdEssential.equal_is_same (same g) c.args.self.now retain _)
