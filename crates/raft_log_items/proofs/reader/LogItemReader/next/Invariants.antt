use Rattle.std.proofs.Common.{◌≡◌, length}
use Rattle.raft_log_file.specs.Reader.{IsReader}
use Rattle.raft_log_items.specs.Items.{Passes, files_left}
use Rattle.raft_log_items.proofs.reader.LogItemReader.next.Given as goal

abbrev pub invariant-files : goal.invariant-files
invariant-files g l = record {
  reader : IsReader l.self.batches (g.F.FileSystem.disk l.files);
  passes : Passes (files_left l.initial.self (g.F.FileSystem.disk l.files)) (files_left l.self (g.F.FileSystem.disk l.files));
  disk : g.F.FileSystem.disk l.files ≡ g.F.FileSystem.disk l.initial.files;
  quiet : (g.F.FileSystem.meter l.files).refusals ≡ (g.F.FileSystem.meter l.initial.files).refusals;
}

abbrev pub decreases-files : goal.decreases-files
decreases-files g l = length l.self.files.items
