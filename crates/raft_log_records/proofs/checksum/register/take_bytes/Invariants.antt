use Rattle.std.proofs.Common.{◌≡◌, fold, take}
use Rattle.raft_log_records.specs.Checksum.{after_byte}
use Rattle.raft_log_records.proofs.checksum.register.take_bytes.Given as goal

abbrev pub invariant-loop-byte : goal.invariant-loop-byte
invariant-loop-byte l = l.register ≡ fold after_byte l.fn.register (take l.byte-index l.bytes)
