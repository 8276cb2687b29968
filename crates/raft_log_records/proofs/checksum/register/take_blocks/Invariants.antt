use Rattle.std.proofs.Common.{◌≡◌, fold, take}
use Rattle.raft_log_records.specs.Checksum.{after_byte}
use Rattle.raft_log_records.proofs.checksum.register.take_blocks.Given as goal

abbrev pub invariant-loop-block : goal.invariant-loop-block
invariant-loop-block l = l.register ≡ fold (fold after_byte) l.fn.register (take l.block-index l.blocks)
