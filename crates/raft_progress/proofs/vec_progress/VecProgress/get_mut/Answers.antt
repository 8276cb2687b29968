use Rattle.std.proofs.Common.{◌≡◌, ◌∙◌, inl, get_or, refl, sym, ap, subst, length, ◌<◌}
use Rattle.std.specs.Prelude.{Some}
use Rattle.std.specs.List.{IsDistinct}
use Rattle.std.specs.Option.{option_or}
use mathlib.Core.Path.{fun_ext}
use Rattle.raft_progress.specs.Values.{value_at, with_value, with_value_at}
use Rattle.raft_progress.specs.Parts.{ids_of}
use Rattle.raft_progress.proofs.ValuesLemmas.{some_of}
use Rattle.raft_progress.proofs.CountedLemmas.{counted_written}
use Rattle.raft_progress.proofs.PartsLemmas.{set_as_at, sets_written, written_voter, written_learner, value_at-missing}
use Rattle.raft_progress.proofs.vec_progress.VecProgress.get_mut.Goals as goal

pub returns-in-Some : goal.returns-in-Some
returns-in-Some g c =
    let eq = g.ID.PartialEq.eq in
    let p = c.args.self.now in
    let id = c.args.id.now in
    let at = c.in-Some.at in
    let entries = c.as_slice.result.now in
    let shown : entries ≡ p.voters = c.as_slice.ensures.value ∙ ap (λ q. q.voters) c.self.view_is in (
      ap (λ f. inl (c.voter_mut.result.ghost_name, f))
          (fun_ext (λ w. written_voter eq g.met.ID.NodeIdEssential.equal_is_same p id w at (rw shown at c.in-Some.ensures.has)
          (subst (λ l. with_value eq l id w ≡ with_value_at l at w) shown (set_as_at eq entries at id w c.in-Some.ensures.within (λ x. c.in-Some.ensures.with_value x w))))),
      record {
        writes_back = tt;
        value = some_of entries at c.in-Some.ensures.within (λ x. ap Some (c.voter_mut.ensures.value x)
            ∙ sym (ap (λ o. option_or o (value_at eq p.learners id)) (subst (λ l. value_at eq l id ≡ Some (get_or l at x).1) shown (c.in-Some.ensures.value x))));
        sets = λ w. sets_written eq g.met.ID.NodeIdEssential.equal_is_same p id w (subst (λ q. IsDistinct eq (ids_of q.voters)) c.self.view_is c.self.invariant);
        counted = λ w s k. counted_written eq g.met.P.Ord.total g.V.Borrow.borrowed g.QS.QuorumSet.accepts g.met.QS.QuorumSet.superset p id w s k;
      },
    )

pub returns-in-Some-place : goal.returns-in-Some-place
returns-in-Some-place g c =
    let eq = g.ID.PartialEq.eq in
    let p = c.args.self.now in
    let id = c.args.id.now in
    let at = c.in-Some-place.at in
    let entries = c.as_slice-in-None.result.now in
    let shown : entries ≡ p.learners = c.as_slice-in-None.ensures.value ∙ ap (λ q. q.learners) c.self.view_is in
    let no_voter = rw (c.as_slice.ensures.value ∙ ap (λ q. q.voters) c.self.view_is) at c.in-None.ensures.has in (
      ap (λ f. inl (c.learner_mut.result.ghost_name, f))
          (fun_ext (λ w. written_learner eq g.met.ID.NodeIdEssential.equal_is_same p id w at no_voter
          (subst (λ l. with_value eq l id w ≡ with_value_at l at w) shown (set_as_at eq entries at id w c.in-Some-place.ensures.within (λ x. c.in-Some-place.ensures.with_value x w))))),
      record {
        writes_back = tt;
        value = some_of entries at c.in-Some-place.ensures.within (λ x. ap Some (c.learner_mut.ensures.value x)
            ∙ sym (ap (λ o. option_or o (value_at eq p.learners id)) (value_at-missing eq p.voters id no_voter) ∙ subst (λ l. value_at eq l id ≡ Some (get_or l at x).1) shown (c.in-Some-place.ensures.value x)));
        sets = λ w. sets_written eq g.met.ID.NodeIdEssential.equal_is_same p id w (subst (λ q. IsDistinct eq (ids_of q.voters)) c.self.view_is c.self.invariant);
        counted = λ w s k. counted_written eq g.met.P.Ord.total g.V.Borrow.borrowed g.QS.QuorumSet.accepts g.met.QS.QuorumSet.superset p id w s k;
      },
    )

pub returns-in-None-place : goal.returns-in-None-place
returns-in-None-place g c =
    let eq = g.ID.PartialEq.eq in
    let p = c.args.self.now in
    let id = c.args.id.now in
    let no_voter = rw (c.as_slice.ensures.value ∙ ap (λ q. q.voters) c.self.view_is) at c.in-None.ensures.has in
    let no_learner = rw (c.as_slice-in-None.ensures.value ∙ ap (λ q. q.learners) c.self.view_is) at c.in-None-place.ensures.has in (
      refl,
      record {
        writes_back = tt;
        value = sym (ap (λ o. option_or o (value_at eq p.learners id)) (value_at-missing eq p.voters id no_voter) ∙ value_at-missing eq p.learners id no_learner);
        sets = λ w. sets_written eq g.met.ID.NodeIdEssential.equal_is_same p id w (subst (λ q. IsDistinct eq (ids_of q.voters)) c.self.view_is c.self.invariant);
        counted = λ w s k. counted_written eq g.met.P.Ord.total g.V.Borrow.borrowed g.QS.QuorumSet.accepts g.met.QS.QuorumSet.superset p id w s k;
      },
    )
