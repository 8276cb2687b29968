-- What is left is ready, and whatever is heard of it makes all heard.
use Rattle.std.proofs.Common.{List, drop}
use Rattle.std.specs.Vec.Iter.{into_iter_items}
use Rattle.raft_sent_frames.specs.Frames.{frames_of}
use Rattle.raft_cluster_lists.specs.declared.kept.KeptGroup.{KeptGroup}
use Rattle.raft_listed_cluster.specs.Round.{AreReadyFor, HearsRound}
use Rattle.raft_listed_cluster.proofs.round.hear_round.Given as goal

abbrev pub invariant-loop-recorded : goal.invariant-loop-recorded
invariant-loop-recorded g l = record {
  ready : AreReadyFor (drop l.recorded-index l.records) (into_iter_items l.left) l.lists;
  hears : (end : List KeptGroup)
      → HearsRound g.N.ClusterNode.acts l.cluster.nodes (frames_of l.cluster.sent) (drop l.recorded-index l.records) (into_iter_items l.left) l.lists end
      → HearsRound g.N.ClusterNode.acts l.cluster.nodes (frames_of l.cluster.sent) l.records (into_iter_items l.initial.left) l.initial.lists end;
}
