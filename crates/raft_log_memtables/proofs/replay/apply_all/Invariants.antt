use Rattle.std.proofs.Common.{◌≡◌, length}
use Rattle.std.specs.Vec.Iter.{into_iter_items, into_iter_len}
use Rattle.raft_log_memtables.specs.Content.{after_batch, reach_after_batch}
use Rattle.raft_log_memtables.specs.MemTables.{content_in, reach_in}
use Rattle.raft_log_memtables.specs.Records.{all_items}
use Rattle.raft_log_memtables.proofs.replay.apply_all.Given as goal

abbrev pub invariant-loop-placed : goal.invariant-loop-placed
invariant-loop-placed l = record {
  content : after_batch (all_items (into_iter_items l.placed-iterator)) (content_in l.memtables)
      ≡ after_batch (all_items (into_iter_items l.initial.placed-iterator)) (content_in l.initial.memtables);
  reach : reach_after_batch (all_items (into_iter_items l.placed-iterator)) (reach_in l.memtables)
      ≡ reach_after_batch (all_items (into_iter_items l.initial.placed-iterator)) (reach_in l.initial.memtables);
  count : into_iter_len l.placed-iterator ≡ length (into_iter_items l.placed-iterator);
}
