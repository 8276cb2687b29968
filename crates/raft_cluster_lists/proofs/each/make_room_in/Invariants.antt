-- Up to that place each group is the same, and has room.
use Rattle.std.proofs.Common.{ℕ}
use Rattle.raft_cluster_lists.proofs.EachLemmas.{HaveGoneOn, IsNoLessWithRoom}
use Rattle.raft_cluster_lists.proofs.each.make_room_in.Given as goal

abbrev pub invariant-loop-kept : goal.invariant-loop-kept
invariant-loop-kept l = HaveGoneOn (λ (h : ℕ). IsNoLessWithRoom l.events) l.kept-index l.fn.groups l.groups
