-- What is left decides.
use Rattle.std.proofs.Common.{◌≡◌, length}
use Rattle.raft_listed_cluster.specs.Numbers.{accepts_in}
use Rattle.raft_listed_cluster.proofs.numbers.accepts_in.Given as goal

abbrev pub invariant-loop-part : goal.invariant-loop-part
invariant-loop-part l = accepts_in l.frames l.group l.parts ≡ accepts_in l.frames l.group l.left

abbrev pub decreases-loop-part : goal.decreases-loop-part
decreases-loop-part l = length l.left
