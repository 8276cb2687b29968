-- It is counted only where the queue is large.
use Rattle.raft_log_cleaning.proofs.Judged.{files_are}
use Rattle.raft_log_cleaning.proofs.due.is_rewrite_due.Goals as goal

pub has_due_garbage-requires-clause-files : goal.has_due_garbage-requires-clause-files
has_due_garbage-requires-clause-files c = files_are c.files_of-files.result c.args.pipes.now.rewrite c.files_of-files.ensures.first c.files_of-files.ensures.active c.files_of-files.ensures.size
