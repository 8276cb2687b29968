use Rattle.std.proofs.Common.{sym, subst, arith}
use Rattle.raft_progress.specs.Granted.{IsGranted}
use Rattle.raft_progress.proofs.OrderLemmas.{le_self}
use Rattle.raft_progress.proofs.GrantedLemmas.{granted_found, granted_default}
use Rattle.raft_progress.proofs.front.granted_by.Goals as goal

pub returns-in-Some : goal.returns-in-Some
returns-in-Some g c = λ f.
    let e = c.index-voters-end.result in
    subst (λ p. IsGranted g.ID.PartialEq.eq g.P.Ord.cmp g.V.Borrow.borrowed (g.QS.QuorumSet.accepts c.args.quorum_set.now) c.args.default p c.args.voters.now) (sym c.borrow.ensures)
    (granted_found g.ID.PartialEq.eq g.met.P.Ord.total g.V.Borrow.borrowed (g.QS.QuorumSet.accepts c.args.quorum_set.now) (λ p r w k. g.met.QS.QuorumSet.superset c.args.quorum_set.now p r w k)
    c.args.default c.args.default c.args.voters.now c.in-Some.end e f c.in-Some.ensures.found.0 (c.in-Some.ensures.found.1 e) (le_self g.met.P.Ord.total c.args.default)
    (c.in-Some.ensures.found.3 (λ p. absurd (omega arith))) c.in-Some.ensures.found.2)

pub returns-in-None : goal.returns-in-None
returns-in-None g c = λ f.
    granted_default g.ID.PartialEq.eq g.met.P.Ord.total g.V.Borrow.borrowed (g.QS.QuorumSet.accepts c.args.quorum_set.now) (λ p r w k. g.met.QS.QuorumSet.superset c.args.quorum_set.now p r w k)
    c.args.default c.args.voters.now c.in-None.ensures.none.0 f c.in-None.ensures.none.2 (c.in-None.ensures.none.1 (λ p. absurd (omega arith)))
