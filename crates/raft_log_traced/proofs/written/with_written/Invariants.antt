-- The items so far are counted.
use Rattle.std.proofs.Common.{◌≡◌, take}
use Rattle.raft_log_records.specs.Item.{items_of}
use Rattle.raft_log_traced.specs.Written.{with_record}
use Rattle.raft_log_traced.proofs.written.with_written.Given as goal

abbrev pub invariant-loop-item : goal.invariant-loop-item
invariant-loop-item l = l.counts ≡ with_record l.fn.before (items_of (take l.item-index l.items))
