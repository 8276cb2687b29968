use Rattle.std.proofs.Common.{◌≤◌, ℕ, length, drop, IfSome}
use Rattle.raft_log_covers.specs.Account.{IsFrom}
use Rattle.raft_log_traces.proofs.FileLemmas.{KeepsRuns, IsReached, CoverFrom}
use Rattle.raft_log_traces.proofs.files.least_of_entries.Given as goal

abbrev pub invariant-loop-at : goal.invariant-loop-at
invariant-loop-at l = record {
  within : l.at ≤ length l.runs;
  cover : CoverFrom (drop l.at l.runs) l.end l.next;
  kept : (n : ℕ) → IsFrom n l.least → KeepsRuns n l.floor l.next (drop l.at l.runs);
  reached : IfSome l.least (IsReached l.floor l.next (drop l.at l.runs));
}

abbrev pub decreases-loop-at : goal.decreases-loop-at
decreases-loop-at l = l.at
