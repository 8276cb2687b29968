use Rattle.std.proofs.Common.{◌≡◌}
use Rattle.std.specs.BTreeMap.{values}
use Rattle.raft_log_traces.specs.Files.{least_with}
use Rattle.raft_log_traces.proofs.files.least_with_keys.Given as goal

abbrev pub invariant-loop-other : goal.invariant-loop-other
invariant-loop-other l = least_with l.least l.other-iterator ≡ least_with l.fn.file (values l.keys)
