use Rattle.raft_log_marks.proofs.CleaningLemmas.{files_before_the_least_may_go}
use Rattle.raft_log_marks.proofs.laws.files_before_the_least_may_go.Goals as goal

pub returns : goal.returns
returns c = files_before_the_least_may_go
