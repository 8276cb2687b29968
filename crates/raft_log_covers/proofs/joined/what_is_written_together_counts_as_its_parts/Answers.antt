use Rattle.raft_log_covers.proofs.JoinedLemmas.{parts_count, parts_keep, fronts_keep}
use Rattle.raft_log_covers.proofs.joined.what_is_written_together_counts_as_its_parts.Goals as goal

pub returns-clause-count : goal.returns-clause-count
returns-clause-count c = parts_count

pub returns-clause-kept : goal.returns-clause-kept
returns-clause-kept c = parts_keep

pub returns-clause-fronts : goal.returns-clause-fronts
returns-clause-fronts c = fronts_keep
