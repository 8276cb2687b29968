use Rattle.std.proofs.Common.{◌≡◌, ◌≤◌, length, drop, map}
use Rattle.std.specs.Cmp.Lexicographic.{pointwise}
use Rattle.raft_membership.proofs.goal.are_ids_of.Given as goal

abbrev pub invariant-loop-node : goal.invariant-loop-node
invariant-loop-node g l = record {
  within : l.at ≤ length l.ids;
  rest : pointwise g.NID.PartialEq.eq l.ids (map (λ x. x.0) l.nodes) ≡ pointwise g.NID.PartialEq.eq (drop l.at l.ids) (map (λ x. x.0) (drop l.node-index l.nodes));
}
