use Rattle.raft_nodes_on_files.proofs.opening.open_node.Goals as goal

pub returns-clause-ok : goal.returns-clause-ok
returns-clause-ok g c = c.open_over_log.ensures.ok

pub returns-clause-err : goal.returns-clause-err
returns-clause-err g c = c.open_over_log.ensures.err
