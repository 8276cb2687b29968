use Rattle.raft_cluster_laws.proofs.NodesActing.{as_asked, names_who_waits, others_as_asked}
use Rattle.raft_cluster_laws.proofs.acting.nodes_act.Goals as goal

pub returns-clause-own : goal.returns-clause-own
returns-clause-own c = as_asked

pub returns-clause-others : goal.returns-clause-others
returns-clause-others c = others_as_asked

pub returns-clause-names : goal.returns-clause-names
returns-clause-names c = names_who_waits
