use Rattle.std.proofs.Common.{◌≡◌, ℕ, ◌+◌, ◌<◌, ◌≤◌, length}
use Rattle.raft_log_recovery.specs.Scan.{seq_at}
use Rattle.raft_log_recovery.proofs.scan.run_start.Given as goal

abbrev pub invariant-loop-start : goal.invariant-loop-start
invariant-loop-start l = record {
  within : l.start ≤ length l.files;
  some : 0 < length l.files → l.start < length l.files;
  run : (i : ℕ) → l.start ≤ i → i + 1 < length l.files → seq_at l.files (i + 1) ≡ seq_at l.files i + 1;
}

abbrev pub decreases-loop-start : goal.decreases-loop-start
decreases-loop-start l = l.start
