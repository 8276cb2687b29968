-- The first `reached` are no quorum, and those up to `end` are one, unless it is the end of all.
use Rattle.std.proofs.Common.{◌≡◌, ◌+◌, ◌-◌, ◌<◌, ◌≤◌, length, take, true, false}
use Rattle.raft_quorums.specs.Nodes.{has_node}
use Rattle.raft_progress.proofs.front.quorum_end.Given as goal

abbrev pub invariant-halving : goal.invariant-halving
invariant-halving g l = record {
  below : l.reached ≤ l.end;
  within : l.end ≤ length l.voters;
  low : (0 < l.from → g.QS.QuorumSet.accepts l.quorum_set (has_node g.ID.PartialEq.eq (take l.from l.voters)) ≡ false) → 0 < l.reached → g.QS.QuorumSet.accepts l.quorum_set (has_node g.ID.PartialEq.eq (take l.reached l.voters)) ≡ false;
  high : l.end < length l.voters → g.QS.QuorumSet.accepts l.quorum_set (has_node g.ID.PartialEq.eq (take (l.end + 1) l.voters)) ≡ true;
}

abbrev pub decreases-halving : goal.decreases-halving
decreases-halving g l = l.end - l.reached
