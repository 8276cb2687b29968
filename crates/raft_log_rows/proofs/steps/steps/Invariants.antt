use Rattle.raft_log_pipes.specs.Pipes.{ArePipes}
use Rattle.raft_log_rows.proofs.steps.steps.Given as goal

abbrev pub invariant-loop-word : goal.invariant-loop-word
invariant-loop-word g l = ArePipes l.pipes (g.F.FileSystem.disk l.files)
