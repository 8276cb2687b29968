use Rattle.std.proofs.Common.{◌≡◌, drop}
use Rattle.raft_log_records.specs.Item.{items_of}
use Rattle.raft_log_memtables.specs.Replay.{mark_of}
use Rattle.raft_log_purge.proofs.together.mark_in.Given as goal

abbrev pub invariant-loop-item : goal.invariant-loop-item
invariant-loop-item l = mark_of (items_of (drop l.item-index l.items)) ≡ mark_of (items_of l.items)
