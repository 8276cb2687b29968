-- What comes of the rest is what comes of all.
use Rattle.std.proofs.Common.{◌≡◌, Option, Result, drop}
use Rattle.raft_cluster_events.specs.declared.node.NodeOutcome.{NodeOutcome}
use Rattle.raft_cluster_events.specs.declared.outcome.NodeError.{NodeError}
use Rattle.raft_node_laws.specs.Delivery.{Comes, pieces_from}
use Rattle.raft_cluster.proofs.delivery.deliver.Given as goal

abbrev pub invariant-loop-cut : goal.invariant-loop-cut
invariant-loop-cut g l =
    ((r : Result (Option NodeOutcome) NodeError) (x : g.row.N.Denot) → Comes g.N.ClusterNode.acts l.peer l.now l.node (pieces_from l.bytes l.begin (drop l.cut-index l.cuts)) r x → Comes g.N.ClusterNode.acts l.peer l.now l.initial.node (pieces_from l.bytes 0 l.cuts) r x)
    × (g.N.ClusterNode.acts.id l.node ≡ g.N.ClusterNode.acts.id l.initial.node)
