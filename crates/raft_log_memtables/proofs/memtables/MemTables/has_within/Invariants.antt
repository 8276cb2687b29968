use Rattle.std.proofs.Common.{◌≤◌, length}
use Rattle.raft_log_records.specs.Item.{items_of}
use Rattle.raft_log_memtables.specs.Content.{after_batch}
use Rattle.raft_log_memtables.specs.MemTables.{content_in}
use Rattle.raft_log_memtables.specs.Search.{LeadsTo}
use Rattle.raft_log_memtables.proofs.memtables.MemTables.has_within.Given as goal

abbrev pub invariant-loop-rest : goal.invariant-loop-rest
invariant-loop-rest l = record {
  leads : LeadsTo (after_batch (items_of l.rest) (content_in l.self) l.raft_group_id).entry l.bounds.0 l.bounds.1 (after_batch (items_of l.items) (content_in l.self) l.raft_group_id).entry l.fn.first l.fn.last;
  shorter : length l.rest ≤ length l.items;
}

abbrev pub decreases-loop-rest : goal.decreases-loop-rest
decreases-loop-rest l = length l.rest
