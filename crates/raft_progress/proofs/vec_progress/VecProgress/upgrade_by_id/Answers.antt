use Rattle.std.proofs.Common.{◌≡◌, ◌∙◌, map, refl, ap, subst, sym}
use Rattle.std.specs.List.Sorted.{IsPermutation}
use Rattle.std.proofs.lemmas.List.Sorted.{IsPermutation-refl}
use Rattle.raft_quorums.specs.Rising.{IsRising}
use Rattle.raft_progress.specs.Parts.{carried}
use Rattle.raft_progress.proofs.PartsLemmas.{distinct-carried, upgraded}
use Rattle.raft_progress.proofs.vec_progress.VecProgress.upgrade_by_id.Goals as goal

pub invariant_of-result : goal.invariant_of-result
invariant_of-result g c =
    let old = carried g.ID.PartialEq.eq c.args.self.now c.args.default_value in
    distinct-carried g.ID.PartialEq.eq g.met.ID.NodeIdEssential.equal_is_same c.args.self.now c.args.default_value g.ID.Ord.cmp g.met.ID.Ord.matches_eq g.met.ID.Eq.laws.symm
    c.as_slice.result.now c.in_ok-voters.voters.items (subst (IsRising g.ID.Ord.cmp) (sym c.as_slice.ensures.ids) c.as_slice.ensures.rising)
    (subst (IsPermutation (map old c.as_slice.result.now)) (sym c.in_ok-voters.ensures) (IsPermutation-refl (map old c.as_slice.result.now)))

pub returns-clause-upgraded : goal.returns-clause-upgraded
returns-clause-upgraded g c =
    let old = carried g.ID.PartialEq.eq c.args.self.now c.args.default_value in
    let members = g.QS.QuorumSet.members c.args.quorum_set in
    let voters : c.in_ok-voters.voters.items ≡ map old members = c.in_ok-voters.ensures ∙ ap (map old) (c.as_slice.ensures.ids ∙ c.in_ok-ids.ensures) in
    upgraded g.ID.PartialEq.eq g.met.ID.NodeIdEssential.equal_is_same c.args.self.now c.args.default_value _ c.args.quorum_set members c.args.learner_ids.now
    (distinct-carried g.ID.PartialEq.eq g.met.ID.NodeIdEssential.equal_is_same c.args.self.now c.args.default_value g.ID.Ord.cmp g.met.ID.Ord.matches_eq g.met.ID.Eq.laws.symm
    c.as_slice.result.now c.in_ok-voters.voters.items (subst (IsRising g.ID.Ord.cmp) (sym c.as_slice.ensures.ids) c.as_slice.ensures.rising)
    (subst (IsPermutation (map old c.as_slice.result.now)) (sym c.in_ok-voters.ensures) (IsPermutation-refl (map old c.as_slice.result.now)))) refl
    (subst (IsPermutation (map old members)) (sym voters) (IsPermutation-refl (map old members)))
    c.in_ok-learners.ensures
