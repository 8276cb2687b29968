use Rattle.std.specs.Prelude.{◌≡◌, true, false}
use Rattle.raft_laws.proofs.law_runs.acceptances_of_runs.Goals as goal

pub returns-clause-not_sent : goal.returns-clause-not_sent
returns-clause-not_sent c = λ h. let f : false ≡ true = h in cc

pub returns-clause-unsaid : goal.returns-clause-unsaid
returns-clause-unsaid c = λ h. let f : false ≡ true = h in cc

pub returns-clause-not_that_vote : goal.returns-clause-not_that_vote
returns-clause-not_that_vote c = λ h. let f : false ≡ true = h in cc
