-- What a quorum has accepted ends where the halves meet.
use Rattle.raft_leaders.proofs.AcceptedLemmas.{ends_between}
use Rattle.raft_leaders.proofs.accepted.accepted_end.Goals as goal

pub returns : goal.returns
returns g c =
    ends_between c.args.own c.args.leader.now (g.VS.QuorumSet.accepts c.args.voters.now) (g.met.VS.QuorumSet.superset c.args.voters.now) c.args.from c.args.end c.halving.reached
    c.halving.refused c.halving-test.false c.halving.invariant.low c.halving.invariant.high
