use Rattle.raft_step_laws.proofs.Committing.{commits_at_once, told_at_once}
use Rattle.raft_step_laws.proofs.commits.leaders_commit_at_once.Goals as goal

pub returns-clause-commits : goal.returns-clause-commits
returns-clause-commits c = commits_at_once

pub returns-clause-tokens : goal.returns-clause-tokens
returns-clause-tokens c = told_at_once
