-- What is left to be taken back is what some of the outcomes sent.
use Rattle.std.proofs.Common.{ℕ, List, vec_len}
use Rattle.raft_cluster_events.specs.declared.node.NodeOutcome.{NodeOutcome}
use Rattle.raft_sent_frames.specs.Frames.{frames_of}
use Rattle.raft_cluster.specs.Facts.{Sent}
use Rattle.raft_cluster.specs.Sending.{AnySent, AreSent}
use Rattle.raft_cluster.proofs.sending.take_all_back.Given as goal

abbrev pub invariant-loop-part : goal.invariant-loop-part
invariant-loop-part l = (f : Sent) (sender : ℕ) (os : List NodeOutcome) → AreSent f sender os l.initial.done.items (frames_of l.initial.sent) → AnySent f sender l.done.items (frames_of l.sent)

abbrev pub decreases-loop-part : goal.decreases-loop-part
decreases-loop-part l = vec_len l.done
