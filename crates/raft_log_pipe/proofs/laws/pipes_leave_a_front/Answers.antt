use Rattle.raft_log_pipe.proofs.PipeLemmas.{holds_leaves}
use Rattle.raft_log_pipe.proofs.laws.pipes_leave_a_front.Goals as goal

pub returns : goal.returns
returns c = λ p d s u h. holds_leaves p.queue p.older.items p.active p.writer.offset d s u h
