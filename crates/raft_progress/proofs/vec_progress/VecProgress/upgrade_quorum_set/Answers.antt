use Rattle.std.proofs.Common.{◌≡◌, ◌∙◌, map, refl, subst, sym}
use Rattle.std.specs.List.Sorted.{IsPermutation}
use Rattle.raft_quorums.specs.Rising.{IsRising}
use Rattle.raft_progress.specs.Parts.{carried}
use Rattle.raft_progress.proofs.PartsLemmas.{distinct-carried, upgraded}
use Rattle.raft_progress.proofs.vec_progress.VecProgress.upgrade_quorum_set.Goals as goal

pub invariant_of-result : goal.invariant_of-result
invariant_of-result g c =
    distinct-carried g.ID.PartialEq.eq g.met.ID.NodeIdEssential.equal_is_same c.args.self.now c.args.default_value g.ID.Ord.cmp g.met.ID.Ord.matches_eq g.met.ID.Eq.laws.symm
    c.as_slice.result.now c.in_ok-voters.voters.items (subst (IsRising g.ID.Ord.cmp) (sym c.as_slice.ensures.ids) c.as_slice.ensures.rising) c.in_ok-voters.ensures.entries

pub returns-clause-upgraded : goal.returns-clause-upgraded
returns-clause-upgraded g c =
    upgraded g.ID.PartialEq.eq g.met.ID.NodeIdEssential.equal_is_same c.args.self.now c.args.default_value _ c.args.quorum_set (g.QS.QuorumSet.members c.args.quorum_set) c.args.learner_ids.now
    (distinct-carried g.ID.PartialEq.eq g.met.ID.NodeIdEssential.equal_is_same c.args.self.now c.args.default_value g.ID.Ord.cmp g.met.ID.Ord.matches_eq g.met.ID.Eq.laws.symm
    c.as_slice.result.now c.in_ok-voters.voters.items (subst (IsRising g.ID.Ord.cmp) (sym c.as_slice.ensures.ids) c.as_slice.ensures.rising) c.in_ok-voters.ensures.entries) refl
    (subst (λ l. IsPermutation (map (carried g.ID.PartialEq.eq c.args.self.now c.args.default_value) l) c.in_ok-voters.voters.items) (c.as_slice.ensures.ids ∙ c.in_ok-ids.ensures) c.in_ok-voters.ensures.entries)
    c.in_ok-learners.ensures
