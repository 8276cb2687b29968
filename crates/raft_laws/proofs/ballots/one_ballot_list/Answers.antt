-- The laws of `Settling`, at every group.
use Rattle.raft_laws.proofs.BallotSettling.{settled_on_list, only_settled, only_grows, leaders_have, all_commits, one_entry, ballots_rise}
use Rattle.raft_laws.proofs.BallotOrigins.{listed_written}
use Rattle.raft_laws.proofs.ballots.one_ballot_list.Goals as goal

pub returns-clause-settled : goal.returns-clause-settled
returns-clause-settled c = λ g es b i some h. settled_on_list g some es b i h

pub returns-clause-only_settled : goal.returns-clause-only_settled
returns-clause-only_settled c = λ g es i some l. only_settled g some es i l

pub returns-clause-grows : goal.returns-clause-grows
returns-clause-grows c = λ g es fs some. only_grows g some es fs

pub returns-clause-leaders_hold : goal.returns-clause-leaders_hold
returns-clause-leaders_hold c = λ g es fs b i n some h. leaders_have g some es fs b i n h

pub returns-clause-commits : goal.returns-clause-commits
returns-clause-commits c = λ g es n some. all_commits g some es n

pub returns-clause-one_entry : goal.returns-clause-one_entry
returns-clause-one_entry c = λ g es n m i x y some. one_entry g some es n m i x y

pub returns-clause-votes_rise : goal.returns-clause-votes_rise
returns-clause-votes_rise c = λ g es fs n some. ballots_rise g some es fs n

pub returns-clause-origins : goal.returns-clause-origins
returns-clause-origins c = λ g es i x some pos h. listed_written g some es i x pos h
