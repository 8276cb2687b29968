use Rattle.std.proofs.Common.{◌≡◌, take}
use Rattle.raft_conditions.proofs.change.copied_nodes.Given as goal

abbrev pub invariant-loop-id : goal.invariant-loop-id
invariant-loop-id l = l.copies.items ≡ take l.id-index l.nodes
