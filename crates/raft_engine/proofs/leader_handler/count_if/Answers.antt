use Rattle.raft_engine.proofs.ClockLemmas.{keeps_same}
use Rattle.raft_engine.proofs.leader_handler.count_if.Goals as goal

pub returns-clause-heard : goal.returns-clause-heard
returns-clause-heard c = keeps_same c.args.leader.now

pub returns-clause-counts : goal.returns-clause-counts
returns-clause-counts c = λ m is still. still c.if-changed.false

pub returns-then-changed-clause-counts : goal.returns-then-changed-clause-counts
returns-then-changed-clause-counts c = λ m is still. c.count_by.ensures.counts m is
