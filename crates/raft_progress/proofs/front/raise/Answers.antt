use Rattle.std.proofs.Common.{rules, ◌≡◌, ◌∙◌, sym, ap, subst, refl, arith, get_or, length, ◌<◌, true, false}
use Rattle.std.specs.Ordering.{is_lt}
use Rattle.std.proofs.Math.ListN.{length-set}
use Rattle.raft_progress.specs.Granted.{IsGranted}
use Rattle.raft_progress.proofs.OrderLemmas.{lt_le}
use Rattle.raft_progress.proofs.FallingLemmas.{falling_but_set, at_any}
use Rattle.raft_progress.proofs.GrantedLemmas.{granted_same, granted_found, granted_stopped, granted_least, start_moved}
use Rattle.raft_progress.proofs.front.raise.Goals as goal
use Rattle.raft_progress.proofs.front.raise.Goals.{then-was_above-via-then-was_above, then-was_above-via-else-was_above+then-not-is_below}

pub returns-then-was_above-clause-falling : goal.returns-then-was_above-clause-falling
returns-then-was_above-clause-falling g c f =
    let d = c.index-voters-index.result in
    c.move_up-at.ensures.falling (falling_but_set g.met.P.Ord.total g.V.Borrow.borrowed c.args.voters.now c.args.index ((get_or c.args.voters.now c.args.index d).0, c.args.value) d c.requires.within (c.requires.rises d) f)

pub returns-in-Some-clause-falling : goal.returns-in-Some-clause-falling
returns-in-Some-clause-falling g c f =
    let d = c.index-voters-index.result in
    c.move_up-at.ensures.falling (falling_but_set g.met.P.Ord.total g.V.Borrow.borrowed c.args.voters.now c.args.index ((get_or c.args.voters.now c.args.index d).0, c.args.value) d c.requires.within (c.requires.rises d) f)

pub returns-in-None-clause-falling : goal.returns-in-None-clause-falling
returns-in-None-clause-falling g c f =
    let d = c.index-voters-index.result in
    c.move_up-at.ensures.falling (falling_but_set g.met.P.Ord.total g.V.Borrow.borrowed c.args.voters.now c.args.index ((get_or c.args.voters.now c.args.index d).0, c.args.value) d c.requires.within (c.requires.rises d) f)

pub returns-then-was_above-clause-granted : goal.returns-then-was_above-clause-granted
returns-then-was_above-clause-granted g c default f h =
    let d = c.index-voters-index.result in
    let is_old : c.is_below-was_above.result ≡ is_lt (g.P.Ord.cmp c.args.granted (g.V.Borrow.borrowed (get_or c.args.voters.now c.args.index d).1)) =
    c.is_below-was_above.ensures ∙ ap (λ p. is_lt (g.P.Ord.cmp c.args.granted p)) (c.borrow.ensures ∙ ap (λ (z : g.row.ID.Denot × g.row.V.Denot). g.V.Borrow.borrowed z.1) (at_any c.args.voters.now c.args.index c.index-voters-index-2.result d c.requires.within)) in
    granted_same g.ID.PartialEq.eq g.met.P.Ord.total g.V.Borrow.borrowed (g.QS.QuorumSet.accepts c.args.quorum_set.now) (λ p r w k. g.met.QS.QuorumSet.superset c.args.quorum_set.now p r w k)
    c.args.voters.now c.args.index ((get_or c.args.voters.now c.args.index d).0, c.args.value) d c.requires.within refl (c.requires.rises d)
    default c.args.granted c.move_up-at.new.voters
    (elim c.then-was_above.branch [
      | then-was_above-via-then-was_above w ↦
          let above : is_lt (g.P.Ord.cmp c.args.granted (g.V.Borrow.borrowed (get_or c.args.voters.now c.args.index d).1)) ≡ true = sym is_old ∙ w.if-was_above.true in
          lt_le g.met.P.Ord.total c.args.granted (g.V.Borrow.borrowed (get_or c.args.voters.now c.args.index d).1) (g.V.Borrow.borrowed c.args.value) above (c.requires.rises d) ∙ sym above
      | then-was_above-via-else-was_above+then-not-is_below w ↦
          ap (λ p. is_lt (g.P.Ord.cmp c.args.granted p)) (sym w.borrow-else-was_above.ensures) ∙ sym w.is_below.ensures ∙ w.if-not-is_below.true ∙ sym w.if-was_above.false ∙ is_old
    ])
    c.move_up-at.ensures.permutation h

pub returns-in-Some-clause-granted : goal.returns-in-Some-clause-granted
returns-in-Some-clause-granted g c default f h =
    let d = c.index-voters-index.result in
    let new_above : is_lt (g.P.Ord.cmp c.args.granted (g.V.Borrow.borrowed c.args.value)) ≡ true =
    ap (λ p. is_lt (g.P.Ord.cmp c.args.granted p)) (sym c.borrow-else-was_above.ensures) ∙ sym c.is_below.ensures ∙ c.if-not-is_below.false in
    let falls = returns-in-Some-clause-falling g c f in
    let e = c.index-voters-end.result in
    subst (λ p. IsGranted g.ID.PartialEq.eq g.P.Ord.cmp g.V.Borrow.borrowed (g.QS.QuorumSet.accepts c.args.quorum_set.now) default p c.move_up-at.new.voters) (sym c.borrow-in-Some.ensures)
    (granted_found g.ID.PartialEq.eq g.met.P.Ord.total g.V.Borrow.borrowed (g.QS.QuorumSet.accepts c.args.quorum_set.now) (λ p r w k. g.met.QS.QuorumSet.superset c.args.quorum_set.now p r w k)
    default c.args.granted c.move_up-at.new.voters c.in-Some.end e falls c.in-Some.ensures.found.0 (c.in-Some.ensures.found.1 e)
    (granted_least g.ID.PartialEq.eq g.met.P.Ord.total g.V.Borrow.borrowed (g.QS.QuorumSet.accepts c.args.quorum_set.now) (λ p r w k. g.met.QS.QuorumSet.superset c.args.quorum_set.now p r w k) default c.args.granted c.args.voters.now h)
    (c.in-Some.ensures.found.3
    (start_moved g.ID.PartialEq.eq g.met.P.Ord.total g.V.Borrow.borrowed (g.QS.QuorumSet.accepts c.args.quorum_set.now) (λ p r w k. g.met.QS.QuorumSet.superset c.args.quorum_set.now p r w k)
    c.args.voters.now c.args.index ((get_or c.args.voters.now c.args.index d).0, c.args.value) d c.requires.within refl (c.requires.rises d)
    default c.args.granted c.move_up-at.new.voters c.move_up-at.result new_above falls c.move_up-at.ensures.place (omega (arith, length-set {A = g.row.ID.Denot × g.row.V.Denot})) c.move_up-at.ensures.entry c.move_up-at.ensures.front h))
    c.in-Some.ensures.found.2)

pub returns-in-None-clause-granted : goal.returns-in-None-clause-granted
returns-in-None-clause-granted g c default f h =
    let d = c.index-voters-index.result in
    let new_above : is_lt (g.P.Ord.cmp c.args.granted (g.V.Borrow.borrowed c.args.value)) ≡ true =
    ap (λ p. is_lt (g.P.Ord.cmp c.args.granted p)) (sym c.borrow-else-was_above.ensures) ∙ sym c.is_below.ensures ∙ c.if-not-is_below.false in
    let falls = returns-in-None-clause-falling g c f in
    granted_stopped g.ID.PartialEq.eq g.met.P.Ord.total g.V.Borrow.borrowed (g.QS.QuorumSet.accepts c.args.quorum_set.now) (λ p r w k. g.met.QS.QuorumSet.superset c.args.quorum_set.now p r w k)
    c.args.voters.now c.args.index ((get_or c.args.voters.now c.args.index d).0, c.args.value) d c.requires.within refl (c.requires.rises d)
    default c.args.granted c.move_up-at.new.voters c.in-None.ensures.none.0 new_above c.move_up-at.ensures.permutation falls c.in-None.ensures.none.2
    (c.in-None.ensures.none.1
    (start_moved g.ID.PartialEq.eq g.met.P.Ord.total g.V.Borrow.borrowed (g.QS.QuorumSet.accepts c.args.quorum_set.now) (λ p r w k. g.met.QS.QuorumSet.superset c.args.quorum_set.now p r w k)
    c.args.voters.now c.args.index ((get_or c.args.voters.now c.args.index d).0, c.args.value) d c.requires.within refl (c.requires.rises d)
    default c.args.granted c.move_up-at.new.voters c.move_up-at.result new_above falls c.move_up-at.ensures.place (omega (arith, length-set {A = g.row.ID.Denot × g.row.V.Denot})) c.move_up-at.ensures.entry c.move_up-at.ensures.front h))
    h
