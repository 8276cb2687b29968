-- Who is missing where ids come into a voter group.
use Rattle.std.proofs.Common.{◌≡◌, ◌==◌, ℕ, suc, arith, length, Bool, true, false, cond, List, [], ◌∷◌, refl, ap, sym, subst, ◌∙◌}
use Rattle.std.specs.Prelude.{◌||◌, not, if◌then◌else◌, Option, Some, None}
use Rattle.std.specs.declared.cmp.Ordering.{Ordering}
use Rattle.std.specs.declared.cmp.Ordering.TheVariants.{Less, Equal, Greater}
use Rattle.std.specs.Ordering.{match_ordering}
use Rattle.std.specs.List.{list_any}
use Rattle.std.specs.BTreeSet.{insert_key}
use Rattle.std.specs.Cmp.{IsTotalOrder}
use Rattle.std.specs.Cmp.Lexicographic.{pointwise}
use Rattle.raft_quorums.specs.Nodes.{with_ids}
use Rattle.raft_quorums.specs.Quorum.{last_config, next_configs}
use Rattle.raft_quorums.specs.Rising.{IsBelowAll, IsRising}
use Rattle.raft_quorums.specs.RisingLaws.{below_trans, rising_ids_same, rising_insert_key, turned}
use Rattle.std.proofs.Math.Bool.{true≢false}
use Rattle.std.proofs.lemmas.Bool.Decides.{nat_tests}
use Rattle.raft_membership.specs.Membership.{lesser, first_outside}
use Rattle.raft_membership.specs.Validity.{fault_of, groups_fault}

module _ {K : Type 0} (cmp : K → K → Ordering) where
  lesser_none : (a : Option K) → lesser cmp a None ≡ a
  lesser_none None = refl
  lesser_none (Some x) = refl

  lesser_same : (o : Ordering) (x : K) → match_ordering o (Some x) (Some x) (Some x) ≡ Some x
  lesser_same Less x = refl
  lesser_same Equal x = refl
  lesser_same Greater x = refl

  -- the lesser of two is no greater than the first
  lesser_again : (a b : Option K) → lesser cmp a (lesser cmp a b) ≡ lesser cmp a b
  lesser_again None b = refl
  lesser_again (Some x) None = lesser_same (cmp x x) x
  lesser_again (Some x) (Some y) =
      elim (cmp x y) as (λ o. cmp x y ≡ o → lesser cmp (Some x) (match_ordering o (Some x) (Some x) (Some y)) ≡ match_ordering o (Some x) (Some x) (Some y)) [
        | Less ↦ λ e. lesser_same (cmp x x) x
        | Equal ↦ λ e. lesser_same (cmp x x) x
        | Greater ↦ λ e. ap (λ o. match_ordering o (Some x) (Some x) (Some y)) e
      ] refl

module _ {K : Type 0} {cmp : K → K → Ordering} (order : IsTotalOrder cmp) (same : (x y : K) → cmp x y ≡ Equal → x ≡ y) (known : K → Bool) where
  -- the id, unless it is known
  abbrev unknown : K → Option K
  unknown k = cond (not (known k)) (Some k) None

  -- none of those above an id is less than it
  lesser_first : (k : K) (xs : List K) → IsBelowAll cmp k xs → lesser cmp (Some k) (first_outside known xs) ≡ Some k
  lesser_first k [] h = refl
  lesser_first k (x ∷ xs) h =
      elim (not (known x)) as (λ b. lesser cmp (Some k) (cond b (Some x) (first_outside known xs)) ≡ Some k) [
        | true ↦ ap (λ o. match_ordering o (Some k) (Some k) (Some x)) h.0
        | false ↦ lesser_first k xs h.1
      ]

  lesser_last : (k : K) (xs : List K) → IsBelowAll cmp k xs → lesser cmp (first_outside known xs) (Some k) ≡ Some k
  lesser_last k [] h = refl
  lesser_last k (x ∷ xs) h =
      elim (not (known x)) as (λ b. lesser cmp (cond b (Some x) (first_outside known xs)) (Some k) ≡ Some k) [
        | true ↦ ap (λ o. match_ordering o (Some x) (Some x) (Some k)) (turned order k x Less h.0)
        | false ↦ lesser_last k xs h.1
      ]

  in_front : (k : K) (xs : List K) → IsBelowAll cmp k xs → first_outside known (k ∷ xs) ≡ lesser cmp (first_outside known xs) (unknown k)
  in_front k xs h =
      elim (not (known k)) as (λ b. cond b (Some k) (first_outside known xs) ≡ lesser cmp (first_outside known xs) (cond b (Some k) None)) [
        | true ↦ sym (lesser_last k xs h)
        | false ↦ sym (lesser_none cmp (first_outside known xs))
      ]

  there_already : (x : K) (xs : List K) → first_outside known (x ∷ xs) ≡ lesser cmp (first_outside known (x ∷ xs)) (unknown x)
  there_already x xs =
      elim (not (known x)) as (λ b. cond b (Some x) (first_outside known xs) ≡ lesser cmp (cond b (Some x) (first_outside known xs)) (cond b (Some x) None)) [
        | true ↦ sym (lesser_same cmp (cmp x x) x)
        | false ↦ sym (lesser_none cmp (first_outside known xs))
      ]

  -- the first stays first where an id above it comes in
  first_stays : (x k : K) → cmp x k ≡ Less → Some x ≡ lesser cmp (Some x) (unknown k)
  first_stays x k e =
      elim (not (known k)) as (λ b. Some x ≡ lesser cmp (Some x) (cond b (Some k) None)) [
        | true ↦ sym (ap (λ o. match_ordering o (Some x) (Some x) (Some k)) e)
        | false ↦ refl
      ]

  -- where one id comes in, it or who was missing before is missing
  missing-insert : (xs : List K) (k : K) → IsRising cmp xs → first_outside known (insert_key cmp xs k) ≡ lesser cmp (first_outside known xs) (unknown k)
  missing-insert [] k h = refl
  missing-insert (x ∷ xs) k h =
      elim (cmp k x) as (λ o. cmp k x ≡ o → first_outside known (match_ordering o (k ∷ x ∷ xs) (x ∷ xs) (x ∷ insert_key cmp xs k))
      ≡ lesser cmp (first_outside known (x ∷ xs)) (unknown k)) [
        | Less ↦ λ e. in_front k (x ∷ xs) (e, below_trans order k x xs e h.0)
        | Equal ↦ λ e. subst (λ y. first_outside known (x ∷ xs) ≡ lesser cmp (first_outside known (x ∷ xs)) (unknown y)) (sym (same k x e)) (there_already x xs)
        | Greater ↦ λ e.
            elim (not (known x)) as (λ b. cond b (Some x) (first_outside known (insert_key cmp xs k)) ≡ lesser cmp (cond b (Some x) (first_outside known xs)) (unknown k)) [
              | true ↦ first_stays x k (turned order k x Greater e)
              | false ↦ missing-insert xs k h.1
            ]
      ] refl

  -- who is above the second is above the lesser of both
  lesser_absorbs : (a : Option K) (k : K) (ids : List K) → IsBelowAll cmp k ids → lesser cmp (lesser cmp a (Some k)) (first_outside known ids) ≡ lesser cmp a (Some k)
  lesser_absorbs None k ids h = lesser_first k ids h
  lesser_absorbs (Some x) k ids h =
      elim (cmp x k) as (λ o. cmp x k ≡ o → lesser cmp (match_ordering o (Some x) (Some x) (Some k)) (first_outside known ids) ≡ match_ordering o (Some x) (Some x) (Some k)) [
        | Less ↦ λ e. lesser_first x ids (below_trans order x k ids e h)
        | Equal ↦ λ e. lesser_first x ids (subst (λ y. IsBelowAll cmp y ids) (sym (same x k e)) h)
        | Greater ↦ λ e. lesser_first k ids h
      ] refl

  -- where ids come in, the least of those who were missing and of them is missing
  pub missing-with_ids : (ids xs : List K) → IsRising cmp xs → IsRising cmp ids → first_outside known (with_ids cmp xs ids) ≡ lesser cmp (first_outside known xs) (first_outside known ids)
  missing-with_ids [] xs h k = sym (lesser_none cmp (first_outside known xs))
  missing-with_ids (id ∷ ids) xs h k =
      missing-with_ids ids (insert_key cmp xs id) (rising_insert_key order id xs h) k.1
      ∙ ap (λ o. lesser cmp o (first_outside known ids)) (missing-insert xs id h)
      ∙ elim (not (known id)) as (λ b. lesser cmp (lesser cmp (first_outside known xs) (cond b (Some id) None)) (first_outside known ids)
      ≡ lesser cmp (first_outside known xs) (cond b (Some id) (first_outside known ids))) [
        | true ↦ lesser_absorbs (first_outside known xs) id ids k.0
        | false ↦ ap (λ o. lesser cmp o (first_outside known ids)) (lesser_none cmp (first_outside known xs))
      ]

module _ {K : Type 0} (cmp : K → K → Ordering) where
  not_nought : (n : ℕ) → (suc n == 0) ≡ false
  not_nought n = grind (arith, nat_tests)

  some-insert : (xs : List K) (k : K) → (length (insert_key cmp xs k) == 0) ≡ false
  some-insert [] k = refl
  some-insert (x ∷ xs) k =
      elim (cmp k x) as (λ o. (length (match_ordering o (k ∷ x ∷ xs) (x ∷ xs) (x ∷ insert_key cmp xs k)) == 0) ≡ false) [
        | Less ↦ not_nought (suc (length xs))
        | Equal ↦ not_nought (length xs)
        | Greater ↦ not_nought (length (insert_key cmp xs k))
      ]

  -- a group stays where ids come in
  pub some-with_ids : (ids xs : List K) → (length xs == 0) ≡ false → (length (with_ids cmp xs ids) == 0) ≡ false
  some-with_ids [] xs h = h
  some-with_ids (id ∷ ids) xs h = some-with_ids ids (insert_key cmp xs id) (some-insert xs id)

-- where nobody is in a group, those who come in are all
pub with_ids-nobody : {K : Type 0} {cmp : K → K → Ordering} → IsTotalOrder cmp → (xs ids : List K) → (length xs == 0) ≡ true → IsRising cmp ids → with_ids cmp xs ids ≡ ids
with_ids-nobody order [] ids e h = rising_ids_same order ids h
with_ids-nobody {cmp = cmp} order (x ∷ xs) ids e h = absurd (true≢false (sym e ∙ not_nought cmp (length xs)))

module _ {K : Type 0} (eq : K → K → Bool) {cmp : K → K → Ordering} (order : IsTotalOrder cmp) (same : (x y : K) → cmp x y ≡ Equal → x ≡ y) (known : K → Bool) where
  alone : (goal : List K) (least : Option K) → (length goal == 0) ≡ false → first_outside known goal ≡ least → fault_of false least ≡ groups_fault cmp known (goal ∷ [])
  alone goal least some e = sym (ap (λ b. fault_of (b || false) (first_outside known goal)) some ∙ ap (fault_of false) e)

  beside : (last goal : List K) (least : Option K) → (length last == 0) ≡ false → (length goal == 0) ≡ false → first_outside known goal ≡ least
      → lesser cmp (first_outside known last) least ≡ least → fault_of false least ≡ groups_fault cmp known (last ∷ goal ∷ [])
  beside last goal least h some e again =
      sym (ap (λ b. fault_of (b || ((length goal == 0) || false)) (lesser cmp (first_outside known last) (first_outside known goal))) h
      ∙ ap (λ b. fault_of (b || false) (lesser cmp (first_outside known last) (first_outside known goal))) some
      ∙ ap (λ o. fault_of false (lesser cmp (first_outside known last) o)) e ∙ ap (fault_of false) again)

  -- the fault of a step to the last group with more ids: it and they have somebody, and are nodes
  pub fault-added : (configs : List (List K)) (ids : List K) → (length (last_config configs) == 0) ≡ false → IsRising cmp (last_config configs) → IsRising cmp ids
      → fault_of false (lesser cmp (first_outside known (last_config configs)) (first_outside known ids))
      ≡ groups_fault cmp known (next_configs (pointwise eq) configs (with_ids cmp (last_config configs) ids))
  fault-added [] ids some rising above = absurd_same some
    where
      absurd_same : {G : Type 0} → true ≡ false → G
      absurd_same h = cc h
  fault-added (x ∷ xs) ids some rising above =
      let last : List K = last_config (x ∷ xs) in
      let goal : List K = with_ids cmp last ids in
      let least : Option K = lesser cmp (first_outside known last) (first_outside known ids) in
      let is : first_outside known goal ≡ least = missing-with_ids order same known ids last rising above in
      elim (list_any (λ config. pointwise eq config goal) (x ∷ xs)) as (λ b. fault_of false least ≡ groups_fault cmp known (if b then goal ∷ [] else last ∷ goal ∷ [])) [
        | true ↦ alone goal least (some-with_ids cmp ids last some) is
        | false ↦ beside last goal least some (some-with_ids cmp ids last some) is (lesser_again cmp (first_outside known last) (first_outside known ids))
      ]
