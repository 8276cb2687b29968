use Rattle.raft_log_marks.proofs.CleaningLemmas.{new_queues_are_cleanable, writes_keep_cleanable, marks_keep_cleanable, entries_keep_cleanable, keys_keep_cleanable}
use Rattle.raft_log_marks.proofs.laws.queues_stay_cleanable.Goals as goal

pub returns-clause-new : goal.returns-clause-new
returns-clause-new c = new_queues_are_cleanable

pub returns-clause-writes : goal.returns-clause-writes
returns-clause-writes c = writes_keep_cleanable

pub returns-clause-marks : goal.returns-clause-marks
returns-clause-marks c = marks_keep_cleanable

pub returns-clause-entries : goal.returns-clause-entries
returns-clause-entries c = entries_keep_cleanable

pub returns-clause-keys : goal.returns-clause-keys
returns-clause-keys c = keys_keep_cleanable
