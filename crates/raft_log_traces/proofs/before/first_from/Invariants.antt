use Rattle.std.proofs.Common.{◌≤◌, ℕ, take, IfSome}
use Rattle.raft_log_traces.specs.Runs.{file_in}
use Rattle.raft_log_traces.specs.Before.{StandsFrom}
use Rattle.raft_log_traces.proofs.before.first_from.Given as goal

abbrev pub invariant-loop-run : goal.invariant-loop-run
invariant-loop-run l = IfSome l.first (λ first. (i : ℕ) → first ≤ i → StandsFrom l.file (file_in (take l.run-index l.runs) i))
