-- No append file goes from the barrier on, whatever is refused.
use Rattle.raft_log_cleaner.proofs.Going.{when_ok}
use Rattle.raft_log_cleaning.proofs.expired.purge_expired.Goals as goal

pub returns-clause-barrier : goal.returns-clause-barrier
returns-clause-barrier g c = when_ok c.purge_expired_files.result c.purge_expired_files.ensures.barrier
