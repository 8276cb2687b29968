use Rattle.raft_laws.proofs.SentVotes.{sent_votes_stay}
use Rattle.raft_laws.proofs.VotesRise.{votes_rise}
use Rattle.raft_laws.proofs.law.votes_never_decrease.Goals as goal

pub returns-clause-stored : goal.returns-clause-stored
returns-clause-stored c = votes_rise

pub returns-clause-sent : goal.returns-clause-sent
returns-clause-sent c = sent_votes_stay
