use Rattle.raft_log_purge.proofs.StepLemmas.{steps_keep_cleanable, batches_of_steps_keep_cleanable, steps_keep_files, steps_leave_cleanable}
use Rattle.raft_log_purge.proofs.laws.cleaning_steps_keep_queues.Goals as goal

pub returns-clause-steps : goal.returns-clause-steps
returns-clause-steps c = steps_keep_cleanable

pub returns-clause-batches : goal.returns-clause-batches
returns-clause-batches c = batches_of_steps_keep_cleanable

pub returns-clause-files : goal.returns-clause-files
returns-clause-files c = steps_keep_files

pub returns-clause-leave : goal.returns-clause-leave
returns-clause-leave c = steps_leave_cleanable
