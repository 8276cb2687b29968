use Rattle.raft_history_laws.proofs.EndedOnce.{tokens_end_once, waiting_were_brought}
use Rattle.raft_history_laws.proofs.RunLedgers.{ends_are_named, ledgers_have_the_untold}
use Rattle.raft_history_laws.proofs.ends.tokens_end_once.Goals as goal

pub returns-clause-waits : goal.returns-clause-waits
returns-clause-waits c = ledgers_have_the_untold

pub returns-clause-brought : goal.returns-clause-brought
returns-clause-brought c = waiting_were_brought

pub returns-clause-named : goal.returns-clause-named
returns-clause-named c = ends_are_named

pub returns-clause-once : goal.returns-clause-once
returns-clause-once c = tokens_end_once
