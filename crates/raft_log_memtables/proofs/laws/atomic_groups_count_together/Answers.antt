use Rattle.raft_log_memtables.proofs.Folds.{counts_whole, counts_nothing}
use Rattle.raft_log_memtables.proofs.laws.atomic_groups_count_together.Goals as goal

pub returns-clause-whole : goal.returns-clause-whole
returns-clause-whole c = counts_whole

pub returns-clause-nothing : goal.returns-clause-nothing
returns-clause-nothing c = counts_nothing
