use Rattle.raft_log_file.specs.Writer.{IsWriter}
use Rattle.raft_log_rows.proofs.writing.steps.Given as goal

abbrev pub invariant-loop-word : goal.invariant-loop-word
invariant-loop-word g l = IsWriter l.writer (g.F.FileSystem.disk l.files)
