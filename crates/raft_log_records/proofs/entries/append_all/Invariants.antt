use Rattle.std.proofs.Common.{◌≡◌, ◌++◌, take}
use Rattle.raft_log_records.specs.Batch.{payloads, joined}
use Rattle.raft_log_records.proofs.entries.append_all.Given as goal

abbrev pub invariant-loop-entry : goal.invariant-loop-entry
invariant-loop-entry l = l.out.items ≡ l.fn.out.items ++ joined (payloads (take l.entry-index l.entries))
