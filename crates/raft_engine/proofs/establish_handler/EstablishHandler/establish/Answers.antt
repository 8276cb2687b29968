-- A candidate that a quorum has granted its vote.
use Rattle.std.proofs.Common.{refl}
use Rattle.raft_engine.proofs.establish_handler.EstablishHandler.establish.Goals as goal

pub returns-clause-step : goal.returns-clause-step
returns-clause-step g c = λ x own r granters step standing now. (refl, c.in_ok-begin_lead.ensures.step x own r granters step standing now)
