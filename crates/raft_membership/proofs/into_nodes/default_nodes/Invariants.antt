use Rattle.std.proofs.Common.{◌≡◌, take}
use Rattle.raft_membership.specs.Membership.{default_nodes}
use Rattle.raft_membership.proofs.into_nodes.default_nodes.Given as goal

abbrev pub invariant-loop-id : goal.invariant-loop-id
invariant-loop-id g l = l.nodes.items ≡ default_nodes g.N.NodeEssential.default_node (take l.id-index l.ids)
