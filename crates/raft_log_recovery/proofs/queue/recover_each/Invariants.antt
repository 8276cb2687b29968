use Rattle.std.proofs.Common.{◌≡◌, map, string_bytes, take, vec_len}
use Rattle.raft_log_disk.specs.Cause.{RefusesNoMore}
use Rattle.raft_log_recovery.specs.Queue.{AreRecovered}
use Rattle.raft_log_recovery.proofs.QueueLemmas.{NoneRefused, Replays}
use Rattle.raft_log_recovery.proofs.queue.recover_each.Given as goal

abbrev pub invariant-loop-name : goal.invariant-loop-name
invariant-loop-name g l = record {
  count : vec_len l.recovered ≡ l.name-index;
  so : AreRecovered (map string_bytes l.directories) l.config.queue (g.F.FileSystem.disk l.initial.files) (g.F.FileSystem.disk l.files) (take l.name-index l.names) l.recovered.items;
  replayed : Replays (g.M.ReplayMachine.has_replayed l.initial.machine) (g.M.ReplayMachine.has_replayed l.machine) l.config.queue (g.F.FileSystem.disk l.files) l.recovered.items;
  later : RefusesNoMore (g.F.FileSystem.is_bounded l.initial.files) (g.F.FileSystem.is_bounded l.files) (g.F.FileSystem.meter l.initial.files) (g.F.FileSystem.meter l.files);
  none : NoneRefused l.config.mode (map string_bytes l.directories) l.config.queue l.names (g.F.FileSystem.disk l.initial.files) l.name-index;
}
