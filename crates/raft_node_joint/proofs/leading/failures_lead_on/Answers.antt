use Rattle.raft_node_joint.proofs.Failures.{failed_nodes_pass, failures_lead}
use Rattle.raft_node_joint.proofs.leading.failures_lead_on.Goals as goal

pub returns-clause-passes : goal.returns-clause-passes
returns-clause-passes g c group ge = failed_nodes_pass _ _ _ _ _ group ge

pub returns-clause-halts : goal.returns-clause-halts
returns-clause-halts g c = failures_lead _ _ _ c.args.fault.now
