-- The first quorum ends at an entry above what is granted, or none does.
use Rattle.std.proofs.Common.{◌≡◌, ◌+◌, take, true, add-one}
use Rattle.raft_quorums.specs.Nodes.{has_node}
use Rattle.raft_progress.proofs.front.find_quorum.Goals as goal

pub returns-then-not-starts_above-clause-none : goal.returns-then-not-starts_above-clause-none
returns-then-not-starts_above-clause-none g c = (c.args.from, λ none. none, c.is_above_at-starts_above.ensures.rests c.if-not-starts_above.true)

pub returns-then-not-ends_above-clause-none : goal.returns-then-not-ends_above-clause-none
returns-then-not-ends_above-clause-none g c = (c.quorum_end-end.result, c.quorum_end-end.ensures.first, c.is_above_at-ends_above.ensures.rests c.if-not-ends_above.true)

pub returns-clause-found : goal.returns-clause-found
returns-clause-found g c =
    let above = c.is_above_at-ends_above.ensures.above c.if-not-ends_above.false in
    let accepted : g.QS.QuorumSet.accepts c.args.quorum_set.now (has_node g.ID.PartialEq.eq (take (c.quorum_end-end.result + 1) c.args.voters.now)) ≡ true = c.quorum_end-end.ensures.quorum above.0 in
    (above.0, above.1, rw (← add-one) accepted, c.quorum_end-end.ensures.first)
