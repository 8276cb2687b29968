use Rattle.std.proofs.Common.{sym, subst}
use Rattle.raft_progress.specs.Granted.{IsFalling, IsGranted}
use Rattle.std.specs.List.{IsDistinct}
use Rattle.raft_quorums.specs.Rising.{IsRising}
use Rattle.raft_progress.specs.Parts.{ids_of}
use Rattle.raft_progress.proofs.PartsLemmas.{ids-beside, rising_distinct}
use Rattle.raft_progress.proofs.GrantedLemmas.{built_falling, built_granted}
use Rattle.raft_progress.proofs.vec_progress.VecProgress.new.Goals as goal

pub invariant_of-result : goal.invariant_of-result
invariant_of-result g c =
    subst (λ l. IsDistinct g.ID.PartialEq.eq (ids_of l)) (sym c.in_ok-voters.ensures)
    (subst (IsDistinct g.ID.PartialEq.eq) (sym (ids-beside (λ _. c.args.default_value) c.as_slice.result.now))
    (rising_distinct g.ID.Ord.cmp g.met.ID.Ord.matches_eq c.as_slice.result.now (subst (IsRising g.ID.Ord.cmp) (sym c.as_slice.ensures.ids) c.as_slice.ensures.rising)))

pub returns-clause-counted : goal.returns-clause-counted
returns-clause-counted g c =
    subst (λ p. IsFalling g.P.Ord.cmp g.V.Borrow.borrowed c.in_ok-voters.voters.items × IsGranted g.ID.PartialEq.eq g.P.Ord.cmp g.V.Borrow.borrowed (g.QS.QuorumSet.accepts c.args.quorum_set) p p c.in_ok-voters.voters.items)
    (sym c.borrow-granted.ensures)
    (subst (λ l. IsFalling g.P.Ord.cmp g.V.Borrow.borrowed l × IsGranted g.ID.PartialEq.eq g.P.Ord.cmp g.V.Borrow.borrowed (g.QS.QuorumSet.accepts c.args.quorum_set) (g.V.Borrow.borrowed c.args.default_value) (g.V.Borrow.borrowed c.args.default_value) l)
    (sym c.in_ok-voters.ensures) (
      built_falling g.ID.PartialEq.eq g.met.P.Ord.total g.V.Borrow.borrowed c.args.default_value c.as_slice.result.now,
      built_granted g.ID.PartialEq.eq g.met.P.Ord.total g.V.Borrow.borrowed c.args.default_value (g.QS.QuorumSet.accepts c.args.quorum_set) c.as_slice.result.now,
    ))
