use Rattle.raft_log_file.specs.Reader.{IsReader}
use Rattle.raft_log_rows.proofs.reading.all.Given as goal

abbrev pub invariant-loop-read : goal.invariant-loop-read
invariant-loop-read g l = IsReader l.reader (g.F.FileSystem.disk l.files)
