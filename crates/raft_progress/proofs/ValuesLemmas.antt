-- The place of an id, and the value there.
use Rattle.std.proofs.Common.{◌≡◌, ℕ, zero, suc, ◌+◌, ◌<◌, ◌≤◌, List, [], ◌∷◌, length, get_or, refl, ap, sym, ◌∙◌, subst, arith}
use Rattle.std.specs.Prelude.{Bool, true, false, not, ◌||◌, cond, nat_lt, Option, Some, None}
use Rattle.std.specs.List.{position, position_or_len, prefix_len}
use Rattle.std.proofs.Math.ListN.{set}
use borrow.Author.Tests.{ltb-true, ltb-false}
use Rattle.raft_quorums.specs.Nodes.{has_node}
use Rattle.std.specs.declared.cmp.Ordering.{Ordering}
use Rattle.std.specs.Ordering.{is_le}
use Rattle.std.specs.Cmp.{IsTotalOrder}
use Rattle.std.specs.Option.{option_map, option_or, IfSome}
use Rattle.raft_progress.specs.Values.{entry_at, value_at, with_value, rises_above}
use Rattle.raft_progress.proofs.OrderLemmas.{le_if_lt}

is_place : (b : Bool) (n at : ℕ) → Some at ≡ cond b (Some n) None → (b ≡ true) × (at ≡ n)
is_place true n at e = (refl, cc e)
is_place false n at e = cc e

is_missing : (b : Bool) (n : ℕ) → None ≡ cond b (Some n) None → b ≡ false
is_missing true n e = cc e
is_missing false n e = refl

-- the value of the entry where the test holds, else of the one that was found behind it
abbrev pub value_if : {K V : Type 0} → Bool → K × V → Option (K × V) → Option V
value_if {K} {V} b x found = option_map (λ (z : K × V). z.1) (cond b (Some x) found)

module _ {K V : Type 0} (eq : K → K → Bool) (id : K) where
  abbrev is_id : K × V → Bool
  is_id x = eq x.0 id

  -- what the index of the id tells of the list xs
  abbrev IsPlace : List (K × V) → K × V → V → ℕ → Type 0
  IsPlace xs d v n =
      (with_value eq xs id v ≡ set xs n ((get_or xs n d).0, v)) × (value_at eq xs id ≡ Some (get_or xs n d).1) × (has_node eq xs id ≡ true)

  first_place : (xs : List (K × V)) (d : K × V) (v : V) → position_or_len is_id xs < length xs → IsPlace xs d v (position_or_len is_id xs)
  first_place [] d v h = absurd (omega arith)
  first_place (x ∷ xs) d v h =
      elim (eq x.0 id) as (λ b. cond (not b) (1 + position_or_len is_id xs) 0 < suc (length xs) →
      (cond b ((x.0, v) ∷ xs) (x ∷ with_value eq xs id v) ≡ set (x ∷ xs) (cond (not b) (1 + position_or_len is_id xs) 0) ((get_or (x ∷ xs) (cond (not b) (1 + position_or_len is_id xs) 0) d).0, v))
      × (value_if b x (entry_at eq xs id) ≡ Some (get_or (x ∷ xs) (cond (not b) (1 + position_or_len is_id xs) 0) d).1) × ((b || has_node eq xs id) ≡ true)) [
        | true ↦ λ k. (refl, refl, refl)
        | false ↦ λ k.
            let w = first_place xs d v (omega arith) in
            let next : suc (position_or_len is_id xs) ≡ 1 + position_or_len is_id xs = omega arith in
            subst (λ n. (x ∷ with_value eq xs id v ≡ set (x ∷ xs) n ((get_or (x ∷ xs) n d).0, v)) × (value_at eq xs id ≡ Some (get_or (x ∷ xs) n d).1) × (has_node eq xs id ≡ true)) next
            (ap (λ l. x ∷ l) w.0, w.1, w.2)
      ] h

  no_place : (xs : List (K × V)) (v : V) → length xs ≤ position_or_len is_id xs → (with_value eq xs id v ≡ xs) × (value_at eq xs id ≡ None) × (has_node eq xs id ≡ false)
  no_place [] v h = (refl, refl, refl)
  no_place (x ∷ xs) v h =
      elim (eq x.0 id) as (λ b. suc (length xs) ≤ cond (not b) (1 + position_or_len is_id xs) 0 →
      (cond b ((x.0, v) ∷ xs) (x ∷ with_value eq xs id v) ≡ x ∷ xs) × (value_if b x (entry_at eq xs id) ≡ None) × ((b || has_node eq xs id) ≡ false)) [
        | true ↦ λ k. absurd (omega arith)
        | false ↦ λ k. let w = no_place xs v (omega arith) in (ap (λ l. x ∷ l) w.0, w.1, w.2)
      ] h

  pub found : (xs : List (K × V)) (at : ℕ) → Some at ≡ position is_id xs → (at ≡ position_or_len is_id xs) × (at < length xs)
  found xs at e =
      let w = is_place (nat_lt (position_or_len is_id xs) (length xs)) (position_or_len is_id xs) at e in
      (w.1, subst (λ n. n < length xs) (sym w.1) (ltb-true (position_or_len is_id xs) (length xs) w.0))

  pub within : (xs : List (K × V)) (at : ℕ) → Some at ≡ position is_id xs → at < length xs
  within xs at e = (found xs at e).1

  pub with_found : (xs : List (K × V)) (at : ℕ) (d : K × V) (v : V) → Some at ≡ position is_id xs → with_value eq xs id v ≡ set xs at ((get_or xs at d).0, v)
  with_found xs at d v e =
      let w = found xs at e in
      subst (λ n. with_value eq xs id v ≡ set xs n ((get_or xs n d).0, v)) (sym w.0) (first_place xs d v (subst (λ n. n < length xs) w.0 w.1)).0

  pub value_found : (xs : List (K × V)) (at : ℕ) (d : K × V) → Some at ≡ position is_id xs → value_at eq xs id ≡ Some (get_or xs at d).1
  value_found xs at d e =
      let w = found xs at e in
      subst (λ n. value_at eq xs id ≡ Some (get_or xs n d).1) (sym w.0) (first_place xs d d.1 (subst (λ n. n < length xs) w.0 w.1)).1

  pub has_found : (xs : List (K × V)) (at : ℕ) → Some at ≡ position is_id xs → has_node eq xs id ≡ true
  has_found [] at e = cc e
  has_found (x ∷ xs) at e =
      let w = found (x ∷ xs) at e in (first_place (x ∷ xs) x x.1 (subst (λ n. n < length (x ∷ xs)) w.0 w.1)).2

  past : (xs : List (K × V)) → None ≡ position is_id xs → length xs ≤ position_or_len is_id xs
  past xs e =
      let w = is_missing (nat_lt (position_or_len is_id xs) (length xs)) (position_or_len is_id xs) e in
      omega (arith, not_below (position_or_len is_id xs) (length xs) w)
    where
      not_below : (m n : ℕ) → nat_lt m n ≡ false → n ≤ m
      not_below m n h = ltb-false m n h

  pub with_missing : (xs : List (K × V)) (v : V) → None ≡ position is_id xs → with_value eq xs id v ≡ xs
  with_missing xs v e = (no_place xs v (past xs e)).0

  pub has_missing : (xs : List (K × V)) → None ≡ position is_id xs → has_node eq xs id ≡ false
  has_missing [] e = refl
  has_missing (x ∷ xs) e = (no_place (x ∷ xs) x.1 (past (x ∷ xs) e)).2

-- where an index lies within a list there is something in it
pub some_of : {X : Type 0} {G : Type 0} (xs : List X) (i : ℕ) → i < length xs → (X → G) → G
some_of [] i h f = absurd (omega arith)
some_of (x ∷ xs) i h f = f x

-- a value that rises above the one of a voter or a learner is no less than the voter's
pub rises_voter : {V P : Type 0} {cmp : P → P → Ordering} (o : IsTotalOrder cmp) (compared : V → P) (voter learner : Option V) (value : V) → rises_above cmp compared (option_or voter learner) value ≡ true → IfSome voter (λ v. is_le (cmp (compared v) (compared value)) ≡ true)
rises_voter o compared None learner value h = tt
rises_voter o compared (Some v) learner value h = le_if_lt o (compared v) (compared value) h
