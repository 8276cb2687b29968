use Rattle.raft_history_laws.proofs.CommittedAtOnce.{leaders_commit, waiting_lack}
use Rattle.raft_history_laws.proofs.RunLeads.{answered_committed, waiting_lack_answers}
use Rattle.raft_history_laws.proofs.commits.leaders_commit_what_quorums_accept.Goals as goal

pub returns-clause-known : goal.returns-clause-known
returns-clause-known c = leaders_commit

pub returns-clause-waiting : goal.returns-clause-waiting
returns-clause-waiting c = waiting_lack

pub returns-clause-answered : goal.returns-clause-answered
returns-clause-answered c = answered_committed

pub returns-clause-unanswered : goal.returns-clause-unanswered
returns-clause-unanswered c = waiting_lack_answers
