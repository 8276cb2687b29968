use Rattle.raft_history_laws.proofs.ToldAnswers.{leaders_hold_told}
use Rattle.raft_history_laws.proofs.told.leaders_hold_what_was_told.Goals as goal

pub returns : goal.returns
returns c = leaders_hold_told
