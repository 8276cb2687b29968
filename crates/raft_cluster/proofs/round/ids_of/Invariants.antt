-- Those so far.
use Rattle.std.proofs.Common.{◌≡◌, map, take}
use Rattle.raft_cluster.proofs.round.ids_of.Given as goal

abbrev pub invariant-loop-slot : goal.invariant-loop-slot
invariant-loop-slot g l = l.ids.items ≡ map (λ slot. g.N.ClusterNode.acts.id slot.node) (take l.slot-index l.slots)
