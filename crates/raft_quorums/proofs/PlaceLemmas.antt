-- A search from the front finds the place, and what is put there is in order.
use Rattle.std.proofs.Common.{◌≡◌, ℕ, zero, suc, ◌<◌, ◌≤◌, List, [], ◌∷◌, length, map, get_or, refl, ap, sym, ◌∙◌, arith}
use Rattle.std.specs.Prelude.{Result, Ok, Err}
use Rattle.std.specs.declared.cmp.Ordering.{Ordering}
use Rattle.std.specs.declared.cmp.Ordering.TheVariants.{Less, Equal, Greater}
use Rattle.std.specs.Ordering.{match_ordering, ordering_reverse}
use Rattle.std.specs.Cmp.{IsTotalOrder}
use Rattle.std.specs.List.{insert}
use Rattle.std.specs.BTreeSet.{insert_key}
use Rattle.raft_quorums.specs.Place.{place, after_one}
use Rattle.raft_quorums.specs.Rising.{IsBelowAll, IsRisingByFirst}
use Rattle.raft_quorums.specs.Nodes.{with_node}
use Rattle.raft_quorums.specs.RisingLaws.{below_trans}
use Rattle.std.proofs.Math.ListN.{set}

-- what is sought lies behind each of the first n
abbrev pub IsBehindFirst : {X : Type 0} → (X → Ordering) → List X → ℕ → Type 0
IsBehindFirst {X} sought xs n = (k : ℕ) (d : X) → k < n → sought (get_or xs k d) ≡ Greater

-- the list with x in the gap that was found, if one was
abbrev pub put_in_gap : {X : Type 0} → List X → X → Result ℕ ℕ → List X
put_in_gap xs x (Ok at) = xs
put_in_gap xs x (Err gap) = insert xs gap x

module _ {X : Type 0} (sought : X → Ordering) where
  behind_first : (x : X) (xs : List X) → sought x ≡ Greater → place sought (x ∷ xs) ≡ after_one (place sought xs)
  behind_first x xs e = ap (λ o. match_ordering o (Err 0) (Ok 0) (after_one (place sought xs))) e

  pub place-gap : (xs : List X) (n : ℕ) (d : X) → n < length xs → IsBehindFirst sought xs n → sought (get_or xs n d) ≡ Less → place sought xs ≡ Err n
  place-gap [] n d h before e = absurd (omega arith)
  place-gap (x ∷ xs) zero d h before e = ap (λ o. match_ordering o (Err 0) (Ok 0) (after_one (place sought xs))) e
  place-gap (x ∷ xs) (suc n) d h before e =
      behind_first x xs (before 0 x (omega arith))
      ∙ ap after_one (place-gap xs n d (omega arith) (λ k f l. before (suc k) f (omega arith)) e)

  pub place-found : (xs : List X) (n : ℕ) (d : X) → n < length xs → IsBehindFirst sought xs n → sought (get_or xs n d) ≡ Equal → place sought xs ≡ Ok n
  place-found [] n d h before e = absurd (omega arith)
  place-found (x ∷ xs) zero d h before e = ap (λ o. match_ordering o (Err 0) (Ok 0) (after_one (place sought xs))) e
  place-found (x ∷ xs) (suc n) d h before e =
      behind_first x xs (before 0 x (omega arith))
      ∙ ap after_one (place-found xs n d (omega arith) (λ k f l. before (suc k) f (omega arith)) e)

  pub place-end : (xs : List X) (n : ℕ) → length xs ≤ n → IsBehindFirst sought xs n → place sought xs ≡ Err (length xs)
  place-end [] n h before = refl
  place-end (x ∷ xs) zero h before = absurd (omega arith)
  place-end (x ∷ xs) (suc n) h before =
      behind_first x xs (before 0 x (omega arith))
      ∙ ap after_one (place-end xs n (omega arith) (λ k f l. before (suc k) f (omega arith)))

-- the list with x first and what one more place puts behind it
put_behind : {X : Type 0} (x y : X) (xs : List X) (r : Result ℕ ℕ) → x ∷ put_in_gap xs y r ≡ put_in_gap (x ∷ xs) y (after_one r)
put_behind x y xs (Ok at) = refl
put_behind x y xs (Err gap) = refl

-- the id goes into the gap that a search finds
pub insert_key-place : {K : Type 0} (cmp : K → K → Ordering) (xs : List K) (k : K) → insert_key cmp xs k ≡ put_in_gap xs k (place (cmp k) xs)
insert_key-place cmp [] k = refl
insert_key-place {K} cmp (x ∷ xs) k =
    elim (cmp k x) as (λ o. match_ordering o (k ∷ x ∷ xs) (x ∷ xs) (x ∷ insert_key cmp xs k)
    ≡ put_in_gap (x ∷ xs) k (match_ordering o (Err 0) (Ok 0) (after_one (place (cmp k) xs)))) [
      | Less ↦ refl
      | Equal ↦ refl
      | Greater ↦ ap (λ l. x ∷ l) (insert_key-place cmp xs k) ∙ put_behind x k xs (place (cmp k) xs)
    ]

-- what a search found tells what the ids are with the new one
pub insert_key-found : {K : Type 0} (cmp : K → K → Ordering) (xs ys : List K) (k : K) (at : ℕ) → ys ≡ xs → Ok at ≡ place (cmp k) ys → insert_key cmp xs k ≡ xs
insert_key-found cmp xs ys k at same found =
    insert_key-place cmp xs k ∙ ap (λ l. put_in_gap xs k (place (cmp k) l)) (sym same) ∙ ap (put_in_gap xs k) (sym found)

pub insert_key-gap : {K : Type 0} (cmp : K → K → Ordering) (xs ys : List K) (k : K) (gap : ℕ) → ys ≡ xs → Err gap ≡ place (cmp k) ys → insert_key cmp xs k ≡ insert xs gap k
insert_key-gap cmp xs ys k gap same found =
    insert_key-place cmp xs k ∙ ap (λ l. put_in_gap xs k (place (cmp k) l)) (sym same) ∙ ap (put_in_gap xs k) (sym found)

module _ {K : Type 0} {cmp : K → K → Ordering} (order : IsTotalOrder cmp) where
  below-equal : (a b : K) (xs : List K) → cmp a b ≡ Equal → IsBelowAll cmp b xs → IsBelowAll cmp a xs
  below-equal a b [] e h = tt
  below-equal a b (x ∷ xs) e h = (order.congr a b x e ∙ h.0, below-equal a b xs e h.1)

-- the pairs with one at the place, or in the gap, that was found
abbrev pub put_node : {K N : Type 0} → List (K × N) → K × N → Result ℕ ℕ → List (K × N)
put_node xs x (Ok at) = set xs at x
put_node xs x (Err gap) = insert xs gap x

put_node_behind : {K N : Type 0} (x y : K × N) (xs : List (K × N)) (r : Result ℕ ℕ) → x ∷ put_node xs y r ≡ put_node (x ∷ xs) y (after_one r)
put_node_behind x y xs (Ok at) = refl
put_node_behind x y xs (Err gap) = refl

module _ {K N : Type 0} (cmp : K → K → Ordering) where
  abbrev seek : K → K × N → Ordering
  seek id x = cmp id x.0

  -- the node goes to the place that a search finds
  pub with_node-place : (xs : List (K × N)) (id : K) (node : N) → with_node cmp xs id node ≡ put_node xs (id, node) (place (λ (x : K × N). cmp id x.0) xs)
  with_node-place [] id node = refl
  with_node-place (x ∷ xs) id node =
      elim (cmp id x.0) as (λ o. match_ordering o ((id, node) ∷ x ∷ xs) ((id, node) ∷ xs) (x ∷ with_node cmp xs id node)
      ≡ put_node (x ∷ xs) (id, node) (match_ordering o (Err 0) (Ok 0) (after_one (place (λ (x : K × N). cmp id x.0) xs)))) [
        | Less ↦ refl
        | Equal ↦ refl
        | Greater ↦ ap (λ l. x ∷ l) (with_node-place xs id node) ∙ put_node_behind x (id, node) xs (place (λ (x : K × N). cmp id x.0) xs)
      ]

  pub with_node-found : (xs ys : List (K × N)) (id : K) (node : N) (r : Result ℕ ℕ) → ys ≡ xs → r ≡ place (λ (x : K × N). cmp id x.0) ys → with_node cmp xs id node ≡ put_node xs (id, node) r
  with_node-found xs ys id node r same found =
      with_node-place xs id node ∙ ap (λ l. put_node xs (id, node) (place (λ (x : K × N). cmp id x.0) l)) (sym same) ∙ ap (put_node xs (id, node)) (sym found)

module _ {K N : Type 0} {cmp : K → K → Ordering} (order : IsTotalOrder cmp) where
  below-with_node : (a id : K) (node : N) (xs : List (K × N)) → cmp a id ≡ Less → IsBelowAll cmp a (map (λ (x : K × N). x.0) xs) → IsBelowAll cmp a (map (λ (x : K × N). x.0) (with_node cmp xs id node))
  below-with_node a id node [] e h = (e, tt)
  below-with_node a id node (x ∷ xs) e h =
      elim (cmp id x.0) as (λ o. IsBelowAll cmp a (map (λ (x : K × N). x.0) (match_ordering o ((id, node) ∷ x ∷ xs) ((id, node) ∷ xs) (x ∷ with_node cmp xs id node)))) [
        | Less ↦ (e, h)
        | Equal ↦ (e, h.1)
        | Greater ↦ (h.0, below-with_node a id node xs e h.1)
      ]

  -- a node that comes in leaves the nodes in order
  pub rising-with_node : (id : K) (node : N) (xs : List (K × N)) → IsRisingByFirst cmp xs → IsRisingByFirst cmp (with_node cmp xs id node)
  rising-with_node id node [] h = (tt, tt)
  rising-with_node id node (x ∷ xs) h =
      elim (cmp id x.0) as (λ o. cmp id x.0 ≡ o → IsRisingByFirst cmp (match_ordering o ((id, node) ∷ x ∷ xs) ((id, node) ∷ xs) (x ∷ with_node cmp xs id node))) [
        | Less ↦ λ e. ((e, below_trans order id x.0 (map (λ (x : K × N). x.0) xs) e h.0), h)
        | Equal ↦ λ e. (below-equal order id x.0 (map (λ (x : K × N). x.0) xs) e h.0, h.1)
        | Greater ↦ λ e. (below-with_node x.0 id node xs (order.antisymm x.0 id ∙ ap ordering_reverse e) h.0, rising-with_node id node xs h.1)
      ] refl
