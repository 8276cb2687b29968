-- Up to that place each group has heard of the opening.
use Rattle.std.proofs.Common.{ℕ}
use Rattle.raft_cluster_lists.specs.Groups.{GoesOnByOpening}
use Rattle.raft_cluster_lists.proofs.EachLemmas.{GoesOnTakingOne, HaveGoneOn}
use Rattle.raft_cluster_lists.proofs.each.hear_openings.Given as goal

abbrev pub invariant-loop-kept : goal.invariant-loop-kept
invariant-loop-kept g l = HaveGoneOn (GoesOnTakingOne (λ (h : ℕ). GoesOnByOpening (g.N.ClusterNode.acts.id l.node) (g.N.ClusterNode.acts.leads l.node) h l.outcome)) l.kept-index l.fn.groups l.groups
