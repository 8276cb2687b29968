use Rattle.std.proofs.Common.{refl}
use Rattle.raft_engine.proofs.vote_handler.VoteHandler.update_vote.Goals as goal

pub returns-clause-step : goal.returns-clause-step
returns-clause-step g c = λ x own r step now no_lower. (refl, c.in_ok-take_over.ensures.step x own r step now)
