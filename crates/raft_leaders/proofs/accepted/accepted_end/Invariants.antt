-- A quorum has accepted what is reached, and nothing from the refused place on.
use Rattle.std.proofs.Common.{◌≤◌, ◌-◌}
use Rattle.raft_leaders.proofs.AcceptedLemmas.{IsReached, IsRefused}
use Rattle.raft_leaders.proofs.accepted.accepted_end.Given as goal

abbrev pub invariant-halving : goal.invariant-halving
invariant-halving g l = record {
  below : l.refused ≤ l.end;
  low : IsReached l.own l.leader (g.VS.QuorumSet.accepts l.voters) l.end l.from l.reached;
  high : IsRefused l.own l.leader (g.VS.QuorumSet.accepts l.voters) l.end l.refused;
}

abbrev pub decreases-halving : goal.decreases-halving
decreases-halving g l = l.refused - l.reached
