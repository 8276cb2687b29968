use Rattle.std.proofs.Common.{◌≡◌, drop}
use Rattle.raft_cluster_conditions.specs.Cuts.{are_cuts}
use Rattle.raft_cluster_conditions.proofs.cuts.are_cuts.Given as goal

abbrev pub invariant-loop-cut : goal.invariant-loop-cut
invariant-loop-cut l = are_cuts 0 l.length l.cuts ≡ are_cuts l.before l.length (drop l.cut-index l.cuts)
