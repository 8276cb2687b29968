-- Laws of lists in rising order.
use Rattle.std.specs.Prelude.{◌≡◌, Bool, false, ◌||◌, List, [], ◌∷◌, ◌++◌}
use Rattle.std.specs.List.{fold}
use Rattle.std.specs.BTreeSet.{insert_key}
use Rattle.std.specs.declared.cmp.Ordering.{Ordering}
use Rattle.std.specs.declared.cmp.Ordering.TheVariants.{Less, Equal, Greater}
use Rattle.std.specs.Ordering.{match_ordering, ordering_reverse, is_eq}
use Rattle.std.specs.Cmp.{IsTotalOrder}
use Rattle.std.proofs.Common.{refl, ap, sym, subst, ◌∙◌, append-nil, append_assoc}
use Rattle.raft_quorums.specs.Nodes.{has_id}
use Rattle.raft_quorums.specs.Quorum.{rising_ids, joint_ids}
use Rattle.raft_quorums.specs.Rising.{IsBelowAll, IsRising}

module _ {K : Type 0} {cmp : K → K → Ordering} (order : IsTotalOrder cmp) where
  pub below_trans : (a b : K) (xs : List K) → cmp a b ≡ Less → IsBelowAll cmp b xs → IsBelowAll cmp a xs
  below_trans a b [] e h = tt
  below_trans a b (x ∷ xs) e h = (order.trans a b x e h.0, below_trans a b xs e h.1)

  below_insert_key : (a k : K) (xs : List K) → cmp a k ≡ Less → IsBelowAll cmp a xs
      → IsBelowAll cmp a (insert_key cmp xs k)
  below_insert_key a k [] e h = (e, tt)
  below_insert_key a k (x ∷ xs) e h =
      elim (cmp k x) as (λ o. IsBelowAll cmp a (match_ordering o (k ∷ x ∷ xs) (x ∷ xs) (x ∷ insert_key cmp xs k))) [
        | Less ↦ (e, h)
        | Equal ↦ h
        | Greater ↦ (h.0, below_insert_key a k xs e h.1)
      ]

  -- the other way round
  pub turned : (x y : K) (r : Ordering) → cmp x y ≡ r → cmp y x ≡ ordering_reverse r
  turned x y r e = order.antisymm y x ∙ ap ordering_reverse e

  -- an id that comes in leaves the ids in order
  pub rising_insert_key : (k : K) (xs : List K) → IsRising cmp xs → IsRising cmp (insert_key cmp xs k)
  rising_insert_key k [] h = (tt, tt)
  rising_insert_key k (x ∷ xs) h =
      elim (cmp k x) as (λ o. cmp k x ≡ o
      → IsRising cmp (match_ordering o (k ∷ x ∷ xs) (x ∷ xs) (x ∷ insert_key cmp xs k))) [
        | Less ↦ λ e. ((e, below_trans k x xs e h.0), h)
        | Equal ↦ λ e. h
        | Greater ↦ λ e. (below_insert_key x k xs (turned k x Greater e) h.0, rising_insert_key k xs h.1)
      ] refl

  -- ids that come in leave the ids in order
  pub rising_fold : (ids xs : List K) → IsRising cmp xs → IsRising cmp (fold (insert_key cmp) xs ids)
  rising_fold [] xs h = h
  rising_fold (k ∷ ids) xs h = rising_fold ids (insert_key cmp xs k) (rising_insert_key k xs h)

  pub rising_ids_rise : (ids : List K) → IsRising cmp (rising_ids cmp ids)
  rising_ids_rise ids = rising_fold ids [] tt

  joint_fold : {Q : Type 0} (members : Q → List K) (sets : List Q) (ids : List K) → IsRising cmp ids
      → IsRising cmp (fold (λ ids q. fold (insert_key cmp) ids (members q)) ids sets)
  joint_fold members [] ids h = h
  joint_fold members (q ∷ sets) ids h =
      joint_fold members sets (fold (insert_key cmp) ids (members q)) (rising_fold (members q) ids h)

  -- the ids of all quorum sets rise
  pub joint_ids_rise : {Q : Type 0} (members : Q → List K) (sets : List Q) → IsRising cmp (joint_ids cmp members sets)
  joint_ids_rise members sets = joint_fold members sets [] tt

  below_last : (x y : K) (xs ys : List K) → IsBelowAll cmp x (xs ++ y ∷ ys) → cmp x y ≡ Less
  below_last x y [] ys h = h.0
  below_last x y (z ∷ xs) ys h = below_last x y xs ys h.1

  -- an id above the others goes behind them
  insert_key_last : (xs ys : List K) (k : K) → IsRising cmp (xs ++ k ∷ ys) → insert_key cmp xs k ≡ xs ++ k ∷ []
  insert_key_last [] ys k h = refl
  insert_key_last (x ∷ xs) ys k h =
      ap (λ o. match_ordering o (k ∷ x ∷ xs) (x ∷ xs) (x ∷ insert_key cmp xs k)) (turned x k Less (below_last x k xs ys h.0))
      ∙ ap (λ l. x ∷ l) (insert_key_last xs ys k h.1)

  rising_more : (ids xs : List K) → IsRising cmp (xs ++ ids) → fold (insert_key cmp) xs ids ≡ xs ++ ids
  rising_more [] xs h = sym (append-nil xs)
  rising_more (k ∷ ids) xs h =
      let apart : (xs ++ k ∷ []) ++ ids ≡ xs ++ k ∷ ids = append_assoc xs (k ∷ []) ids in
      ap (λ l. fold (insert_key cmp) l ids) (insert_key_last xs ids k h)
      ∙ rising_more ids (xs ++ k ∷ []) (subst (IsRising cmp) (sym apart) h) ∙ apart

  -- ids in order are what inserting them gives
  pub rising_ids_same : (ids : List K) → IsRising cmp ids → rising_ids cmp ids ≡ ids
  rising_ids_same ids h = rising_more ids [] h

-- who is below all of a list isn't in it
pub below_is_absent : {K : Type 0} {cmp : K → K → Ordering} {eq : K → K → Bool} → IsTotalOrder cmp
    → ((x y : K) → eq x y ≡ is_eq (cmp x y)) → (x : K) (xs : List K) → IsBelowAll cmp x xs → has_id eq xs x ≡ false
below_is_absent order same x [] h = refl
below_is_absent {eq = eq} order same x (y ∷ ys) h =
    ap (λ b. b || has_id eq ys x) (same y x ∙ ap is_eq (turned order x y Less h.0))
    ∙ below_is_absent order same x ys h.1
