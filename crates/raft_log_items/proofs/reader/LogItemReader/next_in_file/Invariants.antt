use Rattle.std.proofs.Common.{◌≡◌, length}
use Rattle.raft_log_file.specs.Reader.{IsReader, left}
use Rattle.raft_log_items.specs.Items.{current}
use Rattle.raft_log_items.proofs.reader.LogItemReader.next_in_file.Given as goal

abbrev pub invariant-batches : goal.invariant-batches
invariant-batches g l = record {
  reader : IsReader l.self.batches (g.F.FileSystem.disk l.files);
  files : l.self.files ≡ l.initial.self.files;
  same : current l.self (g.F.FileSystem.disk l.files) ≡ current l.initial.self (g.F.FileSystem.disk l.files);
}

abbrev pub decreases-batches : goal.decreases-batches
decreases-batches g l = length (left l.self.batches (g.F.FileSystem.disk l.files)).batches
