use Rattle.std.proofs.Common.{◌≡◌, ◌-◌}
use Rattle.raft_log_file.specs.Reading.{read_behind}
use Rattle.raft_log_file.specs.Reader.{HoldsBytes, bytes_in}
use Rattle.raft_log_file.proofs.batches.LogItemBatchFileReader.next_in.Given as goal

abbrev pub invariant-loop-self : goal.invariant-loop-self
invariant-loop-self g l =
    let bytes = bytes_in (g.F.FileSystem.disk l.files) l.file in
    HoldsBytes bytes l.self.buffer.items l.self.buffer_offset l.self.valid_offset l.self.size
    × (l.self.file ≡ l.initial.self.file)
    × (read_behind l.file.id l.file.format l.self.valid_offset bytes ≡ read_behind l.file.id l.file.format l.initial.self.valid_offset bytes)

abbrev pub decreases-loop-self : goal.decreases-loop-self
decreases-loop-self g l = l.self.size - l.self.valid_offset
