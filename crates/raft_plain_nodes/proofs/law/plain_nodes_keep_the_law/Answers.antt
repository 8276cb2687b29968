use Rattle.raft_plain_nodes.proofs.law.plain_nodes_keep_the_law.Goals as goal

pub returns : goal.returns
returns g c = c.log_nodes_keep_the_law.ensures
