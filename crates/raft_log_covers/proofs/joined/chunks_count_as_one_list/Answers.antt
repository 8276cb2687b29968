use Rattle.raft_log_covers.proofs.JoinedLemmas.{chunks_count, chunks_are_run}
use Rattle.raft_log_covers.proofs.joined.chunks_count_as_one_list.Goals as goal

pub returns-clause-count : goal.returns-clause-count
returns-clause-count c = chunks_count

pub returns-clause-run : goal.returns-clause-run
returns-clause-run c = chunks_are_run
