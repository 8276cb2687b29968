-- Those so far are sent.
use Rattle.std.proofs.Common.{◌≡◌, ◌++◌, length}
use Rattle.std.specs.Vec.Iter.{into_iter_items, into_iter_len}
use Rattle.raft_sent_frames.specs.Frames.{frames_of}
use Rattle.raft_cluster.specs.Sending.{AreSent}
use Rattle.raft_cluster.proofs.sending.send_more.Given as goal

abbrev pub invariant-loop-outcome : goal.invariant-loop-outcome
invariant-loop-outcome l =
    (l.yielded ++ into_iter_items l.outcome-iterator ≡ into_iter_items l.initial.outcome-iterator)
    × (into_iter_len l.outcome-iterator ≡ length (into_iter_items l.outcome-iterator))
    × AreSent (frames_of l.fn.sent) l.sender l.yielded l.done.items (frames_of l.sent)
