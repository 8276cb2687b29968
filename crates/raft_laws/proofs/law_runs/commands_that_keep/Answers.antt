use Rattle.std.specs.Prelude.{◌≡◌, true, false}
use Rattle.raft_laws.proofs.law_runs.commands_that_keep.Goals as goal

pub returns-clause-falling : goal.returns-clause-falling
returns-clause-falling c = λ h. let f : true ≡ false = h.1.0 in cc

pub returns-clause-at_committed : goal.returns-clause-at_committed
returns-clause-at_committed c = λ h. let f : true ≡ false = h in cc
