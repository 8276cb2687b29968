use Rattle.raft_laws.proofs.TrackCommits.{commits_own}
use Rattle.raft_laws.proofs.LeaderCommits.{leaders_commit}
use Rattle.raft_laws.proofs.law.leaders_commit_their_own.Goals as goal

pub returns-clause-histories : goal.returns-clause-histories
returns-clause-histories c = leaders_commit

pub returns-clause-commit : goal.returns-clause-commit
returns-clause-commit c = commits_own
