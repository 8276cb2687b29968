use Rattle.std.proofs.Common.{◌≡◌, ◌∙◌, sym, ap, subst, get_or, refl, arith}
use Rattle.std.specs.List.{IsDistinct}
use Rattle.std.specs.List.Sorted.{IsPermutation}
use Rattle.std.specs.Vec.{with_items}
use Rattle.std.proofs.Math.ListN.{set}
use Rattle.std.proofs.lemmas.List.{with_items_is}
use Rattle.raft_progress.specs.Parts.{ids_of}
use Rattle.raft_progress.specs.Values.{with_value}
use Rattle.raft_progress.proofs.ValuesLemmas.{some_of}
use Rattle.raft_progress.proofs.PartsLemmas.{distinct-moved, sets_voter, sets_learner}
use Rattle.raft_progress.proofs.vec_progress.VecProgress.update.Given.{Over}
use Rattle.raft_progress.proofs.vec_progress.VecProgress.update.Goals.{After-result-in-Some-1}
use Rattle.raft_progress.proofs.vec_progress.VecProgress.update.Goals as goal

new_voters : (g : Over) (c : After-result-in-Some-1 g) → (with_items c.self.inside.voters c.raise-self-inside.new.voters).items ≡ c.raise-self-inside.new.voters
new_voters g c =
    with_items_is c.self.inside.voters c.raise-self-inside.new.voters (omega (arith, c.raise-self-inside.auto.voters, c.as_mut_slice-voters.ensures.len))

-- the voters with the value set, in their new places
moved : (g : Over) (c : After-result-in-Some-1 g) → IsPermutation (with_value g.ID.PartialEq.eq c.self.inside.voters.items c.args.id.now c.args.value) (with_items c.self.inside.voters c.raise-self-inside.new.voters).items
moved g c =
    some_of c.as_slice.result.now c.in-Some.at c.in-Some.ensures.within
    (λ x. subst (λ l. IsPermutation l (with_items c.self.inside.voters c.raise-self-inside.new.voters).items)
    (ap (λ l. set l c.in-Some.at ((get_or l c.in-Some.at x).0, c.args.value)) (c.as_mut_slice-voters.ensures.value ∙ sym c.as_slice.ensures.value)
    ∙ sym (c.in-Some.ensures.with_value x c.args.value)
    ∙ ap (λ l. with_value g.ID.PartialEq.eq l c.args.id.now c.args.value) c.as_slice.ensures.value)
    (rw (new_voters g c) (c.raise-self-inside.ensures.values x)))

pub invariant_of-self : goal.invariant_of-self
invariant_of-self g c =
    distinct-moved g.ID.PartialEq.eq g.met.ID.NodeIdEssential.equal_is_same g.met.ID.Eq.laws.symm c.self.inside.voters.items (with_items c.self.inside.voters c.raise-self-inside.new.voters).items c.args.id.now c.args.value (moved g c) c.self.invariant

pub returns-in-Some-clause-sets : goal.returns-in-Some-clause-sets
returns-in-Some-clause-sets g c =
    rw (← c.self.view_is)
    (sets_voter g.ID.PartialEq.eq g.met.ID.NodeIdEssential.equal_is_same _ c.args.id.now c.args.value _
    (rw c.as_slice.ensures.value at c.in-Some.ensures.has) (invariant_of-self g c) (moved g c) refl refl refl)

pub returns-in-Some-clause-grows : goal.returns-in-Some-clause-grows
returns-in-Some-clause-grows g c = rw (← c.self.view_is) c.raise-self-inside.ensures.grows

pub returns-after-set_value-clause-sets : goal.returns-after-set_value-clause-sets
returns-after-set_value-clause-sets g c =
    rw (← c.self.view_is)
    (sets_learner g.ID.PartialEq.eq g.met.ID.NodeIdEssential.equal_is_same _ c.args.id.now c.args.value (with_items c.self.inside.learners c.set_value.new.entries).items
    (with_items_is c.self.inside.learners c.set_value.new.entries (omega (arith, c.set_value.auto.entries, c.as_mut_slice.ensures.len)) ∙ c.set_value.ensures.entries
    ∙ ap (λ l. with_value g.ID.PartialEq.eq l c.args.id.now c.args.value) c.as_mut_slice.ensures.value)
    (rw c.as_slice.ensures.value at c.in-None.ensures.has))
