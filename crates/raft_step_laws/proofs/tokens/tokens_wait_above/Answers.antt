use Rattle.raft_step_laws.proofs.OwnVotes.{votes_stay_own}
use Rattle.raft_step_laws.proofs.Telling.{tokens_wait_leading, untold_above}
use Rattle.raft_step_laws.proofs.tokens.tokens_wait_above.Goals as goal

pub returns-clause-leading : goal.returns-clause-leading
returns-clause-leading c = tokens_wait_leading

pub returns-clause-above : goal.returns-clause-above
returns-clause-above c = untold_above

pub returns-clause-votes : goal.returns-clause-votes
returns-clause-votes c = votes_stay_own
