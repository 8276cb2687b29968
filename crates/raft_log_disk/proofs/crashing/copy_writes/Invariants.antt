use Rattle.std.proofs.Common.{◌≡◌, ◌++◌, take}
use Rattle.raft_log_disk.specs.Changes.{spans_of}
use Rattle.raft_log_disk.proofs.crashing.copy_writes.Given as goal

abbrev pub invariant-loop-write : goal.invariant-loop-write
invariant-loop-write l = spans_of l.to.items ≡ spans_of l.initial.to.items ++ spans_of (take l.write-index l.from)
