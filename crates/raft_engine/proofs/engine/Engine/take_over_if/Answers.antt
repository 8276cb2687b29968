use Rattle.raft_engine.proofs.ClockLemmas.{keeps_same}
use Rattle.raft_engine.proofs.engine.Engine.take_over_if.Goals as goal

pub returns-clause-heard : goal.returns-clause-heard
returns-clause-heard g c = keeps_same c.args.self.now.leader
