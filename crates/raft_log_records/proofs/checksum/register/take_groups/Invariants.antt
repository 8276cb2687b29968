use Rattle.std.proofs.Common.{◌≡◌, fold, take}
use Rattle.raft_log_records.specs.Checksum.{after_byte}
use Rattle.raft_log_records.proofs.checksum.register.take_groups.Given as goal

abbrev pub invariant-loop-group : goal.invariant-loop-group
invariant-loop-group l = l.register ≡ fold (fold after_byte) l.fn.register (take l.group-index l.groups)
