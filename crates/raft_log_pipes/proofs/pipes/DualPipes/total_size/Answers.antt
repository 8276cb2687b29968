use Rattle.raft_log_pipes.proofs.pipes.DualPipes.total_size.Goals as goal

pub returns-in-Append : goal.returns-in-Append
returns-in-Append c = rw c.in-Append.is c.total_size.ensures

pub returns-in-Rewrite : goal.returns-in-Rewrite
returns-in-Rewrite c = rw c.in-Rewrite.is c.total_size-in-Rewrite.ensures
