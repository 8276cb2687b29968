use Rattle.std.proofs.Common.{◌≡◌, ◌≤◌, length, drop}
use Rattle.std.specs.Cmp.Lexicographic.{pointwise}
use Rattle.raft_membership.specs.MembershipChange.{without_ids}
use Rattle.raft_membership.proofs.goal.are_stayers.Given as goal

abbrev pub invariant-loop-id : goal.invariant-loop-id
invariant-loop-id g l = record {
  within : l.at ≤ length l.ids;
  rest : pointwise g.NID.PartialEq.eq l.ids (without_ids g.NID.PartialEq.eq l.group l.leavers)
      ≡ pointwise g.NID.PartialEq.eq (drop l.at l.ids) (without_ids g.NID.PartialEq.eq (drop l.id-index l.group) l.leavers);
}
