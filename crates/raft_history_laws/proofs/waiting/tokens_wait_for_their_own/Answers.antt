use Rattle.raft_history_laws.proofs.WaitingTokens.{waits_own}
use Rattle.raft_history_laws.proofs.waiting.tokens_wait_for_their_own.Goals as goal

pub returns : goal.returns
returns c = waits_own
