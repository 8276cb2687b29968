-- Those so far happened, and each list grew.
use Rattle.std.proofs.Common.{◌≡◌, ◌++◌, length}
use Rattle.std.specs.Vec.Iter.{into_iter_items, into_iter_len}
use Rattle.raft_node_laws.specs.Law.{KeepsLaw}
use Rattle.raft_cluster.specs.Cluster.{Runs}
use Rattle.raft_listed_cluster.specs.Listed.{OnlyGrow, lists_of}
use Rattle.raft_listed_cluster.proofs.listed.ListedCluster.run.Given as goal

abbrev pub invariant-loop-event : goal.invariant-loop-event
invariant-loop-event g l =
    (l.yielded ++ into_iter_items l.event-iterator ≡ into_iter_items l.initial.event-iterator)
    × (into_iter_len l.event-iterator ≡ length (into_iter_items l.event-iterator))
    × (l.count ≡ length l.yielded)
    × Runs g.N.ClusterNode.acts l.initial.self.cluster l.yielded l.self.cluster
    × (KeepsLaw g.N.Machine.StateMachine.rules g.N.ClusterNode.acts g.N.ClusterNode.states → OnlyGrow (lists_of l.initial.self.groups) (lists_of l.self.groups))
