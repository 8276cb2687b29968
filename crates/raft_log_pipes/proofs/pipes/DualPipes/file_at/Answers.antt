use Rattle.raft_log_pipes.proofs.pipes.DualPipes.file_at.Goals as goal

pub returns-in-Append : goal.returns-in-Append
returns-in-Append c = rw c.in-Append.is c.file_at.ensures

pub returns-in-Rewrite : goal.returns-in-Rewrite
returns-in-Rewrite c = rw c.in-Rewrite.is c.file_at-in-Rewrite.ensures
