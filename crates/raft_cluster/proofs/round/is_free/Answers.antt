use Rattle.std.proofs.Common.{◌∙◌, not, ap}
use Rattle.raft_cluster.proofs.round.is_free.Goals as goal

pub returns-in-Some-clause-waits : goal.returns-in-Some-clause-waits
returns-in-Some-clause-waits g c = λ free. let is = c.in-Some.ensures in let none = free.admitted in absurd (cc)

pub returns-in-None-clause-waits : goal.returns-in-None-clause-waits
returns-in-None-clause-waits g c = λ free. ap not (c.has_to_wait.ensures ∙ free.waits)
