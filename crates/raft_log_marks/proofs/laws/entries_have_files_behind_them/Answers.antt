use Rattle.raft_log_marks.proofs.BehindLemmas.{changes_name_behind, rewrites_name_behind}
use Rattle.raft_log_marks.proofs.laws.entries_have_files_behind_them.Goals as goal

pub returns-clause-changes : goal.returns-clause-changes
returns-clause-changes c = changes_name_behind

pub returns-clause-rewrites : goal.returns-clause-rewrites
returns-clause-rewrites c = rewrites_name_behind
