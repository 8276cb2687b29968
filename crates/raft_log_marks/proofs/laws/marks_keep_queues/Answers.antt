use Rattle.raft_log_marks.proofs.MarkLemmas.{marks_of_a_group_keep}
use Rattle.raft_log_marks.proofs.laws.marks_keep_queues.Goals as goal

pub returns : goal.returns
returns c = marks_of_a_group_keep
