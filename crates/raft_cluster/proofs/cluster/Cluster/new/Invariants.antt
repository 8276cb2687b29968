-- Each node so far has nothing, and its own id, and no answer.
use Rattle.std.proofs.Common.{◌≡◌, map, take}
use Rattle.std.specs.List.{AllByRecursion}
use Rattle.raft_cluster.specs.Cluster.{IsNew}
use Rattle.raft_cluster.specs.Joined.{ids_of}
use Rattle.raft_cluster.specs.Round.{are_idle}
use Rattle.raft_cluster.proofs.cluster.Cluster.new.Given as goal

abbrev pub invariant-loop-id : goal.invariant-loop-id
invariant-loop-id g l =
    AllByRecursion (IsNew g.N.ClusterNode.acts) (map (λ slot. slot.node) l.slots.items)
    × (ids_of g.N.ClusterNode.acts (map (λ slot. slot.node) l.slots.items) ≡ take l.id-index l.ids)
    × are_idle (map (λ slot. slot.answer) l.slots.items)
