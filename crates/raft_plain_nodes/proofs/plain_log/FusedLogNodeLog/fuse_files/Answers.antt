-- What is found goes by the log in it, and by whether that is lost.
use Rattle.raft_plain_nodes.proofs.plain_log.FusedLogNodeLog.fuse_files.Goals as goal

pub returns-clause-same : goal.returns-clause-same
returns-clause-same c = λ content. rw c.set_fuse.ensures (λ found. found, λ found. found)
