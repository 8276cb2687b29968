use Rattle.std.proofs.Common.{ℕ}
use Rattle.std.specs.BTreeMap.{values}
use Rattle.raft_log_covers.specs.Account.{IsFrom}
use Rattle.raft_log_traces.specs.Files.{AllKeepFrom}
use Rattle.raft_log_traces.proofs.files.least_of_traces.Given as goal

abbrev pub invariant-loop-trace : goal.invariant-loop-trace
invariant-loop-trace l = record {
  kept : (n : ℕ) → IsFrom n l.least → AllKeepFrom n l.trace-iterator → AllKeepFrom n (values l.traces);
  least : (n : ℕ) → AllKeepFrom n (values l.traces) → IsFrom n l.least × AllKeepFrom n l.trace-iterator;
}
