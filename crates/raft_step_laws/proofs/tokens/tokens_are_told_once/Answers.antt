use Rattle.raft_step_laws.proofs.InOrder.{tokens_go_in_order}
use Rattle.raft_step_laws.proofs.Telling.{tokens_go}
use Rattle.raft_step_laws.proofs.tokens.tokens_are_told_once.Goals as goal

pub returns-clause-tokens : goal.returns-clause-tokens
returns-clause-tokens c = tokens_go

pub returns-clause-order : goal.returns-clause-order
returns-clause-order c = tokens_go_in_order
