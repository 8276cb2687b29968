use Rattle.std.proofs.Common.{◌≡◌, ◌<◌, subst, take, false, arith}
use Rattle.raft_quorums.specs.Nodes.{has_node}
use Rattle.raft_progress.proofs.front.quorum_end.Goals as goal

pub returns-clause-first : goal.returns-clause-first
returns-clause-first g c = λ none.
    let met : c.halving.reached ≡ c.halving.end = omega (arith, c.halving-test.false, c.halving.invariant.below) in
    subst (λ n. 0 < n → g.QS.QuorumSet.accepts c.args.quorum_set.now (has_node g.ID.PartialEq.eq (take n c.args.voters.now)) ≡ false) met (c.halving.invariant.low none)
