use Rattle.std.proofs.Common.{◌≡◌, length}
use Rattle.raft_log_file.specs.Reader.{IsReader, held_bytes, left}
use Rattle.raft_log_recovery.proofs.ReplayLemmas.{Replays}
use Rattle.raft_log_recovery.proofs.reading.replay_left.Given as goal

abbrev pub invariant-batches : goal.invariant-batches
invariant-batches g l = record {
  reader : IsReader l.reader (g.F.FileSystem.disk l.files);
  file : l.reader.file ≡ l.initial.reader.file;
  bytes : held_bytes l.reader (g.F.FileSystem.disk l.files) ≡ held_bytes l.initial.reader (g.F.FileSystem.disk l.files);
  fault : (left l.reader (g.F.FileSystem.disk l.files)).fault ≡ (left l.initial.reader (g.F.FileSystem.disk l.files)).fault;
  to : (left l.reader (g.F.FileSystem.disk l.files)).to ≡ (left l.initial.reader (g.F.FileSystem.disk l.files)).to;
  replayed : Replays (g.M.ReplayMachine.has_replayed l.initial.machine) (g.M.ReplayMachine.has_replayed l.machine) l.id (held_bytes l.initial.reader (g.F.FileSystem.disk l.files))
      (left l.initial.reader (g.F.FileSystem.disk l.files)).batches (left l.reader (g.F.FileSystem.disk l.files)).batches;
}

abbrev pub decreases-batches : goal.decreases-batches
decreases-batches g l = length (left l.reader (g.F.FileSystem.disk l.files)).batches
