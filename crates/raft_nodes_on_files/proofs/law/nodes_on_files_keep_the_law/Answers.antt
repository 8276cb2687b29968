use Rattle.raft_nodes_on_files.proofs.law.nodes_on_files_keep_the_law.Goals as goal

pub returns : goal.returns
returns g c = c.log_nodes_keep_the_law.ensures
