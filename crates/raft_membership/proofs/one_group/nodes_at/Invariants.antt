use Rattle.std.proofs.Common.{◌≡◌, take, map}
use Rattle.raft_membership.proofs.one_group.nodes_at.Given as goal

abbrev pub invariant-loop-id : goal.invariant-loop-id
invariant-loop-id g l = l.nodes.items ≡ map (λ x. (x.0, x.1.now)) (take l.id-index l.addresses)
