use Rattle.raft_log_purge.proofs.RewrittenAnew.{groups_anew_leave_cleanable, all_anew_leave_cleanable}
use Rattle.raft_log_purge.proofs.anew.groups_anew_leave_queues.Goals as goal

pub returns-clause-fronts : goal.returns-clause-fronts
returns-clause-fronts c = groups_anew_leave_cleanable

pub returns-clause-all : goal.returns-clause-all
returns-clause-all c = all_anew_leave_cleanable
