-- The least missing voter, group by group.
use Rattle.std.proofs.Common.{◌≡◌, ℕ, ◌+◌, ◌<◌, Bool, List, [], ◌∷◌, length, take, map, get_or, Option, None, refl, ap, sym, subst}
use Rattle.raft_quorums.specs.Rising.{IsRising, IsRisingByFirst}
use Rattle.std.specs.declared.cmp.Ordering.{Ordering}
use Rattle.std.proofs.lemmas.List.Sums.{fold_more}
use Rattle.raft_membership.specs.Membership.{least_outside, lesser, first_outside, default_nodes}

pub one_group_more : {K : Type 0} (cmp : K → K → Ordering) (known : K → Bool) (configs : List (List K)) (i : ℕ) (d : List K) → i < length configs
    → least_outside cmp known (take (i + 1) configs)
    ≡ lesser cmp (least_outside cmp known (take i configs)) (first_outside known (get_or configs i d))
one_group_more {K} cmp known configs i d h =
    fold_more (λ (least : Option K) group. lesser cmp least (first_outside known group)) None configs i d h

-- ids with nodes keep their ids
pub ids_of_default_nodes : {K N : Type 0} (unknown : N) (ids : List K) → map (λ (x : K × N). x.0) (default_nodes unknown ids) ≡ ids
ids_of_default_nodes unknown [] = refl
ids_of_default_nodes unknown (x ∷ xs) = ap (λ l. x ∷ l) (ids_of_default_nodes unknown xs)

pub rising_default_nodes : {K N : Type 0} (cmp : K → K → Ordering) (unknown : N) (ids : List K) → IsRising cmp ids → IsRisingByFirst cmp (default_nodes unknown ids)
rising_default_nodes cmp unknown ids h = subst (IsRising cmp) (sym (ids_of_default_nodes unknown ids)) h
