use Rattle.raft_log_marks.proofs.StandingLemmas.{cleaned_queues_read_as_the_content, new_queues_can_be_cleaned, writes_leave_cleanable, files_that_go_leave_cleanable}
use Rattle.raft_log_marks.proofs.laws.cleaned_queues_stand.Goals as goal

pub returns-clause-read : goal.returns-clause-read
returns-clause-read c = cleaned_queues_read_as_the_content

pub returns-clause-new : goal.returns-clause-new
returns-clause-new c = new_queues_can_be_cleaned

pub returns-clause-writes : goal.returns-clause-writes
returns-clause-writes c = writes_leave_cleanable

pub returns-clause-gone : goal.returns-clause-gone
returns-clause-gone c = files_that_go_leave_cleanable
