use Rattle.std.proofs.Common.{◌≡◌, ◌≤◌, ℕ}
use Rattle.std.specs.Vec.{vec_len}
use Rattle.raft_log_traces.specs.Runs.{file_in}
use Rattle.raft_log_traces.proofs.runs.drop_before.Given as goal

abbrev pub invariant-loop-runs : goal.invariant-loop-runs
invariant-loop-runs l = (i : ℕ) → l.floor ≤ i → file_in l.runs.items i ≡ file_in l.fn.runs.items i

abbrev pub decreases-loop-runs : goal.decreases-loop-runs
decreases-loop-runs l = vec_len l.runs
