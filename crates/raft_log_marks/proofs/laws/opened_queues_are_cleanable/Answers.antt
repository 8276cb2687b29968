use Rattle.raft_log_marks.proofs.OpenedLemmas.{replays_are_cleanable, settled_groups_keep_no_file}
use Rattle.raft_log_marks.proofs.MadeLemmas.{opened_queues_can_be_cleaned, opened_queues_tell_places}
use Rattle.raft_log_marks.proofs.laws.opened_queues_are_cleanable.Goals as goal

pub returns-clause-replayed : goal.returns-clause-replayed
returns-clause-replayed c = replays_are_cleanable

pub returns-clause-settled : goal.returns-clause-settled
returns-clause-settled c = settled_groups_keep_no_file

pub returns-clause-opened : goal.returns-clause-opened
returns-clause-opened c = opened_queues_can_be_cleaned

pub returns-clause-placed : goal.returns-clause-placed
returns-clause-placed c = opened_queues_tell_places
