-- The files so far are recovered, and a machine has replayed their batches.
use Rattle.std.proofs.Common.{◌≡◌, ◌++◌, length, map, string_bytes, take, vec_len}
use Rattle.std.specs.Vec.Iter.{into_iter_items, into_iter_len}
use Rattle.raft_log_disk.specs.Cause.{RefusesNoMore}
use Rattle.raft_log_recovery.specs.Queue.{AreRecovered}
use Rattle.raft_log_recovery.proofs.QueueLemmas.{NoneRefused, Replays}
use Rattle.raft_log_workers.proofs.recovery.recover_each.Given as goal

abbrev pub invariant-loop-share : goal.invariant-loop-share
invariant-loop-share g l = record {
  rest : l.yielded ++ into_iter_items l.share-iterator ≡ into_iter_items l.initial.share-iterator;
  left : into_iter_len l.share-iterator ≡ length (into_iter_items l.share-iterator);
  count : vec_len l.recovered ≡ length l.yielded;
  so : AreRecovered (map string_bytes l.fn.directories) l.config.queue (g.F.FileSystem.disk l.fn.files) (g.F.FileSystem.disk l.files) (take (length l.yielded) l.names) l.recovered.items;
  replayed : Replays (g.M.ReplayMachine.has_replayed l.fn.machine) (g.M.ReplayMachine.has_replayed l.machine) l.config.queue (g.F.FileSystem.disk l.files) l.recovered.items;
  later : RefusesNoMore (g.F.FileSystem.is_bounded l.fn.files) (g.F.FileSystem.is_bounded l.files) (g.F.FileSystem.meter l.fn.files) (g.F.FileSystem.meter l.files);
  none : NoneRefused l.config.mode (map string_bytes l.fn.directories) l.config.queue l.names (g.F.FileSystem.disk l.fn.files) (length l.yielded);
}
