-- Why a membership is refused.
use Rattle.std.specs.Prelude.{ℕ, Bool, ◌==◌, nat_eq, true, false, length, Option, Some, None}
use Rattle.std.specs.Ordering.{nat_cmp}
use Rattle.raft_membership.specs.declared.error.ChangeMembershipError.{ChangeMembershipError}
use Rattle.raft_membership.specs.Validity.{validity_fault}
use Rattle.raft_group_step.specs.Values.{Membership, is_within_limits}
use Rattle.raft_machines.specs.declared.fault.MembershipFault.{MembershipFault}
use Rattle.raft_machines.specs.declared.fault.MembershipFault.TheVariants.{Invalid, NoGroup, PastLimit}

abbrev pub limit_fault : Bool → Option MembershipFault
limit_fault true = None
limit_fault false = Some PastLimit

abbrev pub group_fault : Bool → Option MembershipFault → Option MembershipFault
group_fault true others = Some NoGroup
group_fault false others = others

abbrev pub invalid_fault : Option (ChangeMembershipError ℕ) → Option MembershipFault → Option MembershipFault
invalid_fault (Some why) others = Some (Invalid why)
invalid_fault None others = others

-- a first membership is valid, has a voter group and is within the limits; the first fault counts
abbrev pub membership_fault_of : Membership → Option MembershipFault
membership_fault_of m =
    invalid_fault (validity_fault nat_eq nat_cmp m.configs m.nodes)
    (group_fault (length m.configs == 0) (limit_fault (is_within_limits m)))
