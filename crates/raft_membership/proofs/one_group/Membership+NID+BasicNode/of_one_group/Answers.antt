use Rattle.std.proofs.Common.{◌≡◌, ◌==◌, ◌<◌, ℕ, zero, suc, Bool, false, length, map, ap, sym, subst, ◌∙◌, arith}
use Rattle.std.specs.Prelude.{None}
use Rattle.std.specs.Ordering.{is_eq}
use Rattle.std.specs.declared.cmp.Ordering.TheVariants.{Equal}
use Rattle.std.proofs.lemmas.List.{length-map}
use Rattle.raft_membership.specs.Validity.{validity_fault}
use Rattle.raft_membership.proofs.OneGroupLemmas.{one_group-valid}
use Rattle.raft_membership.proofs.one_group.Membership+NID+BasicNode.of_one_group.Given as given
use Rattle.raft_membership.proofs.one_group.Membership+NID+BasicNode.of_one_group.Goals as goal

same : (g : given.Over) (x y : _) → g.NID.Ord.cmp x y ≡ Equal → x ≡ y
same g x y e = g.met.NID.NodeIdEssential.equal_is_same x y (g.met.NID.Ord.matches_eq x y ∙ ap is_eq e)

several : (n : ℕ) (b : Bool) → b ≡ (n == 0) → b ≡ false → 0 < n
several zero b e f = cc
several (suc n) b e f = omega arith

pub returns-in-Ok-clause-valid : goal.returns-in-Ok-clause-valid
returns-in-Ok-clause-valid g c =
    let eq = g.NID.PartialEq.eq in
    let cmp = g.NID.Ord.cmp in
    let voters = map (λ x. (x.0, x.1.now)) c.args.voters.now in
    let some : 0 < length c.args.voters.now = several (length c.args.voters.now) c.is_empty.result c.is_empty.ensures c.if-is_empty.false in
    let count : length voters ≡ length c.args.voters.now = length-map c.args.voters.now (λ x. (x.0, x.1.now)) in
    subst (λ m. validity_fault eq cmp m.configs m.nodes ≡ None) (sym c.in-Ok.ensures)
    (one_group-valid eq cmp g.met.NID.Eq.laws.refl (same g) g.met.NID.NodeIdEssential.equal_is_same
    voters (map (λ x. (x.0, x.1.now)) c.args.learners.now) (omega arith))
