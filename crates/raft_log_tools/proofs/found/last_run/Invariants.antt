use Rattle.std.proofs.Common.{◌≡◌, ◌≢◌, ℕ, ◌+◌, ◌-◌, ◌<◌, ◌≤◌, length}
use Rattle.raft_log_recovery.specs.Scan.{seq_at}
use Rattle.raft_log_tools.proofs.found.last_run.Given as goal

abbrev pub invariant-loop-i : goal.invariant-loop-i
invariant-loop-i l = record {
  before : l.start < l.i;
  some : 0 < length l.found → l.start < length l.found;
  within : l.start ≤ length l.found;
  run : (k : ℕ) → l.start ≤ k → k + 1 < l.i → seq_at l.found (k + 1) ≡ seq_at l.found k + 1;
  break : 0 < l.start → seq_at l.found l.start ≢ seq_at l.found (l.start - 1) + 1;
}
