use Rattle.raft_log_covers.proofs.FileLemmas.{changes_keep_files, rewrites_keep_files}
use Rattle.raft_log_covers.proofs.trace.traces_tell_files.Goals as goal

pub returns-clause-changes : goal.returns-clause-changes
returns-clause-changes c = changes_keep_files

pub returns-clause-rewrites : goal.returns-clause-rewrites
returns-clause-rewrites c = rewrites_keep_files
