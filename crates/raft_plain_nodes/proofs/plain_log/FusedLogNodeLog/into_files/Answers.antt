use Rattle.raft_plain_nodes.proofs.plain_log.FusedLogNodeLog.into_files.Goals as goal

pub returns-clause-finds : goal.returns-clause-finds
returns-clause-finds c = λ content found. found

pub returns-clause-left : goal.returns-clause-left
returns-clause-left c = λ content found. found.1
