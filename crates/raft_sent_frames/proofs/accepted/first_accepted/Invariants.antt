-- What is left decides.
use Rattle.std.proofs.Common.{◌≡◌, length}
use Rattle.raft_sent_frames.specs.Frames.{first_accepted}
use Rattle.raft_sent_frames.proofs.accepted.first_accepted.Given as goal

abbrev pub invariant-loop-frame : goal.invariant-loop-frame
invariant-loop-frame l = first_accepted l.frames ≡ first_accepted l.left

abbrev pub decreases-loop-frame : goal.decreases-loop-frame
decreases-loop-frame l = length l.left
