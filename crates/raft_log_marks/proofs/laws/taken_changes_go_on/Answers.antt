use Rattle.raft_log_marks.proofs.WholeLemmas.{taken_changes_go_on, changes_leave_last, rewrites_leave_last, changes_leave_whole}
use Rattle.raft_log_marks.proofs.laws.taken_changes_go_on.Goals as goal

pub returns-clause-taken : goal.returns-clause-taken
returns-clause-taken c = taken_changes_go_on

pub returns-clause-last : goal.returns-clause-last
returns-clause-last c = changes_leave_last

pub returns-clause-rewrites : goal.returns-clause-rewrites
returns-clause-rewrites c = rewrites_leave_last

pub returns-clause-whole : goal.returns-clause-whole
returns-clause-whole c = changes_leave_whole
