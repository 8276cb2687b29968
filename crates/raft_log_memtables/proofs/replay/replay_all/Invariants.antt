use Rattle.std.proofs.Common.{◌≡◌, length}
use Rattle.std.specs.Vec.Iter.{into_iter_items, into_iter_len}
use Rattle.raft_log_memtables.specs.Content.{after_batch}
use Rattle.raft_log_memtables.specs.Records.{items_in_records}
use Rattle.raft_log_memtables.specs.Recovery.{replay_in}
use Rattle.raft_log_memtables.specs.Replay.{after_records}
use Rattle.raft_log_memtables.proofs.replay.replay_all.Given as goal

abbrev pub invariant-loop-placed : goal.invariant-loop-placed
invariant-loop-placed l = record {
  content : after_records after_batch (items_in_records (into_iter_items l.placed-iterator)) (replay_in l.context)
      ≡ after_records after_batch (items_in_records (into_iter_items l.initial.placed-iterator)) (replay_in l.initial.context);
  count : into_iter_len l.placed-iterator ≡ length (into_iter_items l.placed-iterator);
}
