-- Why a membership of one voter group is valid.
use Rattle.std.proofs.Common.{◌≡◌, ◌<◌, ℕ, Bool, true, false, List, [], ◌∷◌, length, map, ap, ◌∙◌, arith, refl}
use Rattle.std.specs.Prelude.{◌==◌, ◌||◌, None}
use Rattle.std.specs.declared.cmp.Ordering.{Ordering}
use Rattle.std.specs.declared.cmp.Ordering.TheVariants.{Less, Equal, Greater}
use Rattle.std.specs.Ordering.{match_ordering}
use Rattle.std.specs.List.{list_all}
use Rattle.std.proofs.lemmas.List.{length-map}
use Rattle.std.proofs.lemmas.Bool.Decides.{nat_tests}
use Rattle.raft_quorums.specs.Nodes.{has_node, with_node, with_nodes, with_new_nodes}
use Rattle.raft_quorums.specs.QuorumLaws.{or_left, or_right}
use Rattle.raft_membership.specs.Membership.{one_group, least_outside}
use Rattle.raft_membership.specs.Validity.{fault_of, validity_fault}
use Rattle.raft_membership.proofs.FaultLemmas.{has_with_new_nodes}
use Rattle.raft_membership.proofs.ReplaceLemmas.{both, no_missing_voter_if_present}

some_is_not_none : (n : ℕ) → 0 < n → (n == 0) ≡ false
some_is_not_none n h = grind (arith, nat_tests)

module _ {K N : Type 0} (cmp : K → K → Ordering) where
  some_with_node : (xs : List (K × N)) (id : K) (node : N) → 0 < length (with_node cmp xs id node)
  some_with_node [] id node = omega arith
  some_with_node (x ∷ xs) id node =
      elim (cmp id x.0) as (λ o. 0 < length (match_ordering o ((id, node) ∷ x ∷ xs) ((id, node) ∷ xs) (x ∷ with_node cmp xs id node))) [
        | Less ↦ omega arith
        | Equal ↦ omega arith
        | Greater ↦ omega arith
      ]

  some_stay : (news xs : List (K × N)) → 0 < length xs → 0 < length (with_nodes cmp xs news)
  some_stay [] xs h = h
  some_stay (n ∷ news) xs h = some_stay news (with_node cmp xs n.0 n.1) (some_with_node xs n.0 n.1)

  -- nodes that come in are some
  some_come : (news : List (K × N)) → 0 < length news → 0 < length (with_nodes cmp [] news)
  some_come [] h = absurd (omega arith)
  some_come (n ∷ news) h = some_stay news ((n.0, n.1) ∷ []) (omega arith)

module _ {K N : Type 0} (eq : K → K → Bool) (itself : (x : K) → eq x x ≡ true) where
  -- nodes are among others that have their ids
  are_among : (nodes others : List (K × N)) → ((k : K) → has_node eq nodes k ≡ true → has_node eq others k ≡ true)
      → list_all (has_node eq others) (map (λ (x : K × N). x.0) nodes) ≡ true
  are_among [] others h = refl
  are_among (x ∷ xs) others h =
      both (has_node eq others x.0) (list_all (has_node eq others) (map (λ (y : K × N). y.0) xs))
      (h x.0 (or_left (eq x.0 x.0) (has_node eq xs x.0) (itself x.0)))
      (are_among xs others (λ k e. h k (or_right (eq x.0 k) (has_node eq xs k) e)))

module _ {K N : Type 0} (eq : K → K → Bool) (cmp : K → K → Ordering) (itself : (x : K) → eq x x ≡ true)
    (same : (x y : K) → cmp x y ≡ Equal → x ≡ y) (identical : (x y : K) → eq x y ≡ true → x ≡ y) where
  pub one_group-valid : (voters learners : List (K × N)) → 0 < length voters
      → validity_fault eq cmp (one_group eq cmp voters learners).configs (one_group eq cmp voters learners).nodes ≡ None
  one_group-valid voters learners h =
      let group : List (K × N) = with_nodes cmp [] voters in
      let nodes : List (K × N) = with_new_nodes eq cmp group learners in
      let ids : List K = map (λ (x : K × N). x.0) group in
      let count : length ids ≡ length group = length-map group (λ (x : K × N). x.0) in
      let some : 0 < length group = some_come cmp voters h in
      let long : (length ids == 0) ≡ false = some_is_not_none (length ids) (omega arith) in
      let there : list_all (has_node eq nodes) ids ≡ true =
      are_among eq itself group nodes
      (λ k e. has_with_new_nodes eq cmp same identical group learners k ∙ or_left (has_node eq group k) (has_node eq learners k) e) in
      ap (λ b. fault_of (b || false) (least_outside cmp (has_node eq nodes) (ids ∷ []))) long
      ∙ ap (fault_of false) (no_missing_voter_if_present eq cmp nodes (ids ∷ []) (both (list_all (has_node eq nodes) ids) true there refl))
