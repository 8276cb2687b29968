-- What is left decides.
use Rattle.std.proofs.Common.{◌≡◌, length}
use Rattle.raft_sent_frames.specs.Frames.{frames_of}
use Rattle.raft_cluster.specs.Round.{is_round}
use Rattle.raft_cluster.proofs.round.is_round.Given as goal

abbrev pub invariant-loop-event : goal.invariant-loop-event
invariant-loop-event l = is_round (frames_of l.sent) l.events ≡ is_round (frames_of l.sent) l.left

abbrev pub decreases-loop-event : goal.decreases-loop-event
decreases-loop-event l = length l.left
