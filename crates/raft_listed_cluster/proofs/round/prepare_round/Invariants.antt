-- Those so far are prepared.
use Rattle.std.proofs.Common.{length, take}
use Rattle.raft_sent_frames.specs.Frames.{frames_of}
use Rattle.raft_listed_cluster.specs.Preparing.{ArePrepared, ArePreparedFor}
use Rattle.raft_listed_cluster.proofs.round.prepare_round.Given as goal

abbrev pub invariant-loop-event : goal.invariant-loop-event
invariant-loop-event g l = record {
  groups : ArePreparedFor l.events l.initial.lists l.lists;
  prepared : ArePrepared g.N.ClusterNode.acts l.cluster.nodes (frames_of l.cluster.sent) (length l.events) l.lists (take l.event-index l.events) l.broughts.items;
}
