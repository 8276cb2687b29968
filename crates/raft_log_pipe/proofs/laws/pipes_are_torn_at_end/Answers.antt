use Rattle.raft_log_pipe.proofs.TornLemmas.{held_torn}
use Rattle.raft_log_pipe.proofs.laws.pipes_are_torn_at_end.Goals as goal

pub returns : goal.returns
returns c = held_torn
