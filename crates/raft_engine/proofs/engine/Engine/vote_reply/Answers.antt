use Rattle.std.proofs.Common.{inl}
use Rattle.std.proofs.lemmas.Result.{on_ok_weaker}
use Rattle.raft_engine.proofs.engine.Engine.vote_reply.Goals as goal

pub returns-clause-heard : goal.returns-clause-heard
returns-clause-heard g c = on_ok_weaker c.take_over_greater.result (λ h. inl h) c.take_over_greater.ensures.heard
