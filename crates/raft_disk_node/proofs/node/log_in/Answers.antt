use Rattle.std.proofs.Common.{rules}
use Rattle.raft_disk_node.proofs.RefusalLemmas.{refused_inside}
use Rattle.raft_disk_node.proofs.node.log_in.Goals as goal

pub returns-clause-refused : goal.returns-clause-refused
returns-clause-refused g c = refused_inside _ _ _ _ (search rules) c.log_on.ensures.refused
