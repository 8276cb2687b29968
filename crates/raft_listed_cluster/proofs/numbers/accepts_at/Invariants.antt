-- What is left decides.
use Rattle.std.proofs.Common.{◌≡◌, length}
use Rattle.raft_listed_cluster.specs.Numbers.{accepts_at}
use Rattle.raft_listed_cluster.proofs.numbers.accepts_at.Given as goal

abbrev pub invariant-loop-one : goal.invariant-loop-one
invariant-loop-one l = accepts_at l.frames l.sent ≡ accepts_at l.frames l.left

abbrev pub decreases-loop-one : goal.decreases-loop-one
decreases-loop-one l = length l.left
