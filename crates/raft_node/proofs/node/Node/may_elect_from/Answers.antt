use Rattle.raft_node.proofs.Telling.{lease_ends}
use Rattle.raft_node.proofs.node.Node.may_elect_from.Goals as goal

pub returns-clause-lease : goal.returns-clause-lease
returns-clause-lease g c = λ s now. lease_ends s now
