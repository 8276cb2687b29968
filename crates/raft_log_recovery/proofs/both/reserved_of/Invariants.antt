use Rattle.std.proofs.Common.{◌≡◌, take}
use Rattle.raft_log_recovery.specs.Both.{as_reserved}
use Rattle.raft_log_recovery.proofs.both.reserved_of.Given as goal

abbrev pub invariant-loop-file : goal.invariant-loop-file
invariant-loop-file l = l.reserved.items ≡ as_reserved (take l.file-index l.found)
