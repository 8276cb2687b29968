-- What is left decides.
use Rattle.std.proofs.Common.{◌≡◌, drop}
use Rattle.raft_cluster.specs.Facts.{differs}
use Rattle.raft_cluster.proofs.facts.differs.Given as goal

abbrev pub invariant-loop-recorded : goal.invariant-loop-recorded
invariant-loop-recorded l = differs l.history l.group l.membership ≡ differs (drop l.recorded-index l.history) l.group l.membership
