use Rattle.raft_disk_node.proofs.node.log_on.Goals as goal

pub returns-in-Err-clause-refused : goal.returns-in-Err-clause-refused
returns-in-Err-clause-refused g c = record { left = c.in-Err.field-0.files.files; opening = c.in-Err.ensures.cause; told = c.cause_of-cause.ensures }
