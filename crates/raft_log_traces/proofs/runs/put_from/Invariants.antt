use Rattle.std.proofs.Common.{◌≡◌, ◌≤◌, ◌<◌, ◌+◌, ℕ}
use Rattle.std.specs.Vec.{vec_len, vec_capacity}
use Rattle.raft_log_traces.specs.Runs.{file_in}
use Rattle.raft_log_traces.proofs.runs.put_from.Given as goal

abbrev pub invariant-loop-runs : goal.invariant-loop-runs
invariant-loop-runs l = record {
  below : (i : ℕ) → i < l.first → file_in l.runs.items i ≡ file_in l.fn.runs.items i;
  room : vec_len l.runs + 1 ≤ vec_capacity l.runs;
}

abbrev pub decreases-loop-runs : goal.decreases-loop-runs
decreases-loop-runs l = vec_len l.runs
