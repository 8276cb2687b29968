-- Those so far happened.
use Rattle.std.proofs.Common.{◌≡◌, ◌++◌, length}
use Rattle.std.specs.Vec.Iter.{into_iter_items, into_iter_len}
use Rattle.raft_cluster.specs.Cluster.{Runs}
use Rattle.raft_cluster.proofs.cluster.Cluster.run.Given as goal

abbrev pub invariant-loop-event : goal.invariant-loop-event
invariant-loop-event g l =
    (l.yielded ++ into_iter_items l.event-iterator ≡ into_iter_items l.initial.event-iterator)
    × (into_iter_len l.event-iterator ≡ length (into_iter_items l.event-iterator))
    × (l.count ≡ length l.yielded)
    × Runs g.N.ClusterNode.acts l.initial.self l.yielded l.self
