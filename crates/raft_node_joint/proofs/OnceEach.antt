-- No group has two outcomes of an opening.
use Rattle.std.specs.Prelude.{◌≡◌, ℕ, ◌==◌, true, false, List, [], ◌∷◌}
use Rattle.std.specs.List.{AllByRecursion, IsDistinct}
use Rattle.std.specs.List.Sorted.{IsStrictlySortedBy}
use Rattle.std.specs.Ordering.{eq_by_cmp, is_eq, nat_cmp}
use Rattle.std.proofs.Common.{sym, ap, ◌∙◌, ne_eqb, subst}
use Rattle.std.proofs.lemmas.Cmp.{nat_cmp_total, tied_itself}
use Rattle.std.proofs.lemmas.Map.Keys.{IsDistinct-from_sorted, IsDistinct-head, IsDistinct-tail}
use Rattle.raft_node.specs.Opening.{groups_of}
use Rattle.raft_node.specs.declared.outcome.Outcome.{Outcome}
use Rattle.raft_node_joint.specs.Reopening.{IsOnceEach}

unequal : (a b : ℕ) → eq_by_cmp nat_cmp a b ≡ false → (a == b) ≡ false
unequal a b differ = ne_eqb a b (λ is.
    let same : eq_by_cmp nat_cmp a a ≡ true = ap is_eq (tied_itself nat_cmp_total a) in
    let no : true ≡ false = sym same ∙ subst (λ x. eq_by_cmp nat_cmp a x ≡ false) (sym is) differ in
    cc)

others : (g : ℕ) (os : List Outcome) → AllByRecursion (λ k. eq_by_cmp nat_cmp g k ≡ false) (groups_of os) → AllByRecursion (λ (o : Outcome). (g == o.group) ≡ false) os
others g [] apart = tt
others g (o ∷ os) apart = (unequal g o.group apart.0, others g os apart.1)

each_once : (os : List Outcome) → IsDistinct (eq_by_cmp nat_cmp) (groups_of os) → IsOnceEach os
each_once [] distinct = tt
each_once (o ∷ os) distinct = (
  others o.group os (IsDistinct-head (eq_by_cmp nat_cmp) o.group (groups_of os) distinct),
  each_once os (IsDistinct-tail (eq_by_cmp nat_cmp) o.group (groups_of os) distinct),
)

pub once_each : (os : List Outcome) → IsStrictlySortedBy nat_cmp (groups_of os) → IsOnceEach os
once_each os rising = each_once os (IsDistinct-from_sorted nat_cmp (groups_of os) rising)
