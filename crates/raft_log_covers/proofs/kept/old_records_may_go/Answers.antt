use Rattle.raft_log_covers.proofs.KeptLemmas.{old_records_may_go, whole_groups_give_all}
use Rattle.raft_log_covers.proofs.kept.old_records_may_go.Goals as goal

pub returns-clause-go : goal.returns-clause-go
returns-clause-go c = old_records_may_go

pub returns-clause-given : goal.returns-clause-given
returns-clause-given c = whole_groups_give_all
