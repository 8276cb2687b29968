use Rattle.raft_log_purge.proofs.RewrittenAnew.{old_rewrites_leave_cleanable, new_rewrites_are_cleanable, queues_read_anew, together_stays}
use Rattle.raft_log_purge.proofs.anew.old_rewrites_leave_queues.Goals as goal

pub returns-clause-gone : goal.returns-clause-gone
returns-clause-gone c = old_rewrites_leave_cleanable

pub returns-clause-new : goal.returns-clause-new
returns-clause-new c = new_rewrites_are_cleanable

pub returns-clause-read : goal.returns-clause-read
returns-clause-read c = queues_read_anew

pub returns-clause-together : goal.returns-clause-together
returns-clause-together c = together_stays
