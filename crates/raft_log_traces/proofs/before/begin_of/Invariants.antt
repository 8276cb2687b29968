use Rattle.std.proofs.Common.{take}
use Rattle.raft_log_traces.specs.Runs.{BeginAt}
use Rattle.raft_log_traces.proofs.before.begin_of.Given as goal

abbrev pub invariant-loop-run : goal.invariant-loop-run
invariant-loop-run l = BeginAt l.begin l.next (take l.run-index l.runs)
