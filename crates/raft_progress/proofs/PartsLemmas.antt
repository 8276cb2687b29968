-- Values beside distinct ids, and a value that is set.
use Rattle.std.proofs.Common.{◌≡◌, ℕ, zero, suc, ◌+◌, ◌<◌, List, [], ◌∷◌, map, length, get_or, refl, ap, sym, ◌∙◌, subst, arith}
use Rattle.std.specs.Prelude.{Bool, true, false, not, ◌||◌, cond, nat_lt, if◌then◌else◌, Option, Some, None, unwrap_or, Result, Ok, Err, OnOk}
use Rattle.std.specs.Option.{option_or}
use Rattle.std.specs.List.{AllByRecursion, Contains, position, position_or_len}
use Rattle.std.specs.List.{IsDistinct}
use Rattle.std.specs.List.Sorted.{IsPermutation}
use Rattle.std.proofs.lemmas.List.Sorted.{list_any-IsPermutation, Contains-permutation, IsPermutation-refl, IsPermutation-map}
use Rattle.std.proofs.lemmas.Map.Keys.{IsDistinct-IsPermutation}
use Rattle.std.proofs.Math.ListN.{set}
use Rattle.std.specs.declared.cmp.Ordering.{Ordering}
use Rattle.std.specs.Ordering.{is_eq, is_le}
use Rattle.raft_progress.specs.Counted.{IsNoLess, lowers_value}
use Rattle.std.specs.Cmp.{IsTotalOrder}
use Rattle.std.proofs.lemmas.Bool.{both_ways}
use borrow.Author.Tests.{lt-ltb}
use Rattle.raft_progress.proofs.OrderLemmas.{le_if_not_lt}
use Rattle.raft_quorums.specs.Rising.{IsBelowAll, IsRising}
use Rattle.raft_quorums.specs.Nodes.{has_id, has_node}
use Rattle.raft_progress.proofs.ValuesLemmas.{some_of, value_if}
use Rattle.raft_progress.proofs.FallingLemmas.{at_any}
use Rattle.raft_progress.specs.Values.{entry_at, value_at, with_value, with_value_at}
use Rattle.raft_progress.specs.Parts.{Parts, IsUpgraded, SetsValue, carried, ids_of, has_value, value_of, with_learner, with_voter, written}

module _ {K V : Type 0} (eq : K → K → Bool) where
  pub ids-with_value : (xs : List (K × V)) (id : K) (v : V) → ids_of (with_value eq xs id v) ≡ ids_of xs
  ids-with_value [] id v = refl
  ids-with_value (x ∷ xs) id v =
      elim (eq x.0 id) as (λ b. ids_of (cond b ((x.0, v) ∷ xs) (x ∷ with_value eq xs id v)) ≡ x.0 ∷ ids_of xs) [
        | true ↦ refl
        | false ↦ ap (λ l. x.0 ∷ l) (ids-with_value xs id v)
      ]

  -- a value that is set at an index
  pub set_at : (xs : List (K × V)) (at : ℕ) (x : K × V) (v : V) → at < length xs → x ≡ get_or xs at x → set xs at (x.0, v) ≡ with_value_at xs at v
  set_at [] at x v h e = absurd (omega arith)
  set_at (y ∷ xs) zero x v h e = ap (λ (z : K × V). (z.0, v) ∷ xs) e
  set_at (y ∷ xs) (suc at) x v h e = ap (λ l. y ∷ l) (set_at xs at x v (omega arith) e)

  -- the place of an id tells where its value is set
  pub set_as_at : (xs : List (K × V)) (at : ℕ) (id : K) (v : V) → at < length xs → ((x : K × V) → with_value eq xs id v ≡ set xs at ((get_or xs at x).0, v)) → with_value eq xs id v ≡ with_value_at xs at v
  set_as_at xs at id v h e = some_of xs at h (λ d. e d ∙ set_at xs at (get_or xs at d) v h (at_any xs at d (get_or xs at d) h))

  -- where an id stands
  pub index_of : (xs : List (K × V)) (id : K) → has_node eq xs id ≡ true
      → (at : ℕ) × (at < length xs) × ((d : K × V) (v : V) → with_value eq xs id v ≡ set xs at ((get_or xs at d).0, v)) × ((d : K × V) → value_at eq xs id ≡ Some (get_or xs at d).1)
  index_of [] id h = cc h
  index_of (x ∷ xs) id h =
      elim (eq x.0 id) as (λ b. (b || has_node eq xs id) ≡ true
      → (at : ℕ) × (at < suc (length xs)) × ((d : K × V) (v : V) → cond b ((x.0, v) ∷ xs) (x ∷ with_value eq xs id v) ≡ set (x ∷ xs) at ((get_or (x ∷ xs) at d).0, v)) × ((d : K × V) → value_if b x (entry_at eq xs id) ≡ Some (get_or (x ∷ xs) at d).1)) [
        | true ↦ λ _. (0, omega arith, (λ d v. refl), (λ d. refl))
        | false ↦ λ k. let w = index_of xs id k in (suc w.0, omega (arith, w.1), (λ d v. ap (λ l. x ∷ l) (w.2 d v)), w.3)
      ] h

  pub ids-with_value_at : (xs : List (K × V)) (at : ℕ) (v : V) → ids_of (with_value_at xs at v) ≡ ids_of xs
  ids-with_value_at [] at v = refl
  ids-with_value_at (x ∷ xs) zero v = refl
  ids-with_value_at (x ∷ xs) (suc at) v = ap (λ l. x.0 ∷ l) (ids-with_value_at xs at v)

  pub with_value-missing : (xs : List (K × V)) (id : K) (v : V) → has_node eq xs id ≡ false → with_value eq xs id v ≡ xs
  with_value-missing [] id v h = refl
  with_value-missing (x ∷ xs) id v h =
      elim (eq x.0 id) as (λ b. (b || has_node eq xs id) ≡ false → cond b ((x.0, v) ∷ xs) (x ∷ with_value eq xs id v) ≡ x ∷ xs) [
        | true ↦ λ k. cc k
        | false ↦ λ k. ap (λ l. x ∷ l) (with_value-missing xs id v k)
      ] h

  pub value_at-missing : (xs : List (K × V)) (id : K) → has_node eq xs id ≡ false → value_at eq xs id ≡ None
  value_at-missing [] id h = refl
  value_at-missing (x ∷ xs) id h =
      elim (eq x.0 id) as (λ b. (b || has_node eq xs id) ≡ false → value_if b x (entry_at eq xs id) ≡ None) [
        | true ↦ λ k. cc k
        | false ↦ λ k. value_at-missing xs id k
      ] h

  pub missing : (xs : List (K × V)) (id : K) → value_at eq xs id ≡ None → has_node eq xs id ≡ false
  missing [] id h = refl
  missing (x ∷ xs) id h =
      elim (eq x.0 id) as (λ b. value_if b x (entry_at eq xs id) ≡ None → (b || has_node eq xs id) ≡ false) [
        | true ↦ λ k. cc k
        | false ↦ λ k. missing xs id k
      ] h

  pub value_set : (xs : List (K × V)) (id : K) (v : V) → has_node eq xs id ≡ true → value_at eq (with_value eq xs id v) id ≡ Some v
  value_set [] id v h = cc h
  value_set (x ∷ xs) id v h =
      elim (eq x.0 id) as (λ b. eq x.0 id ≡ b → (b || has_node eq xs id) ≡ true → value_at eq (cond b ((x.0, v) ∷ xs) (x ∷ with_value eq xs id v)) id ≡ Some v) [
        | true ↦ λ e k. ap (λ b. value_if b (x.0, v) (entry_at eq xs id)) e
        | false ↦ λ e k. ap (λ b. value_if b x (entry_at eq (with_value eq xs id v) id)) e ∙ value_set xs id v k
      ] refl h

  entry_there : (xs : List (K × V)) (id : K) (v : V) → value_at eq xs id ≡ Some v → (key : K) × (eq key id ≡ true) × Contains xs (key, v)
  entry_there [] id v h = cc h
  entry_there (x ∷ xs) id v h =
      elim (eq x.0 id) as (λ b. eq x.0 id ≡ b → value_if b x (entry_at eq xs id) ≡ Some v → (key : K) × (eq key id ≡ true) × Contains (x ∷ xs) (key, v)) [
        | true ↦ λ e k. let w : x.1 ≡ v = cc k in (x.0, e, (0, omega arith, ap (λ z. (x.0, z)) w))
        | false ↦ λ e k. let w = entry_there xs id v k in (w.0, w.1, (suc w.2.0, omega (arith, w.2.1), w.2.2))
      ] refl h

  apart_at : (id : K) (xs : List (K × V)) (k : ℕ) (d : K × V) → AllByRecursion (λ y. eq id y ≡ false) (ids_of xs) → k < length xs → eq id (get_or xs k d).0 ≡ false
  apart_at id [] k d a h = absurd (omega arith)
  apart_at id (x ∷ xs) zero d a h = a.0
  apart_at id (x ∷ xs) (suc k) d a h = apart_at id xs k d a.1 (omega arith)

  module _ (same : (x y : K) → eq x y ≡ true → x ≡ y) where
    pub value_kept : (xs : List (K × V)) (id other : K) (v : V) → eq id other ≡ false → value_at eq (with_value eq xs id v) other ≡ value_at eq xs other
    value_kept [] id other v h = refl
    value_kept (x ∷ xs) id other v h =
        elim (eq x.0 id) as (λ b. eq x.0 id ≡ b → value_at eq (cond b ((x.0, v) ∷ xs) (x ∷ with_value eq xs id v)) other ≡ value_if (eq x.0 other) x (entry_at eq xs other)) [
          | true ↦ λ e.
              let apart : eq x.0 other ≡ false = ap (λ y. eq y other) (same x.0 id e) ∙ h in
              ap (λ b. value_if b (x.0, v) (entry_at eq xs other)) apart ∙ sym (ap (λ b. value_if b x (entry_at eq xs other)) apart)
          | false ↦ λ e.
              elim (eq x.0 other) as (λ c. value_if c x (entry_at eq (with_value eq xs id v) other) ≡ value_if c x (entry_at eq xs other)) [
                | true ↦ refl
                | false ↦ value_kept xs id other v h
              ]
        ] refl

    -- among distinct ids an entry is what its id gives
    found_there : (xs : List (K × V)) (k : ℕ) (d : K × V) (id : K) → IsDistinct eq (ids_of xs) → k < length xs → eq (get_or xs k d).0 id ≡ true → value_at eq xs id ≡ Some (get_or xs k d).1
    unfolding IsDistinct
    found_there [] k d id a h e = absurd (omega arith)
    found_there (x ∷ xs) zero d id a h e = ap (λ b. value_if b x (entry_at eq xs id)) e
    found_there (x ∷ xs) (suc k) d id a h e =
        let apart : eq x.0 id ≡ false = ap (eq x.0) (sym (same (get_or xs k d).0 id e)) ∙ apart_at x.0 xs k d a.0 (omega arith) in
        ap (λ b. value_if b x (entry_at eq xs id)) apart ∙ found_there xs k d id a.1 (omega arith) e

    first_there : (xs : List (K × V)) (k : ℕ) (d : K × V) (id : K) → IsDistinct eq (ids_of xs) → k < length xs → eq (get_or xs k d).0 id ≡ true → position_or_len (λ (x : K × V). eq x.0 id) xs ≡ k
    unfolding IsDistinct
    first_there [] k d id a h e = absurd (omega arith)
    first_there (x ∷ xs) zero d id a h e = ap (λ b. cond (not b) (1 + position_or_len (λ (x : K × V). eq x.0 id) xs) 0) e
    first_there (x ∷ xs) (suc k) d id a h e =
        let apart : eq x.0 id ≡ false = ap (eq x.0) (sym (same (get_or xs k d).0 id e)) ∙ apart_at x.0 xs k d a.0 (omega arith) in
        let rest : position_or_len (λ (x : K × V). eq x.0 id) xs ≡ k = first_there xs k d id a.1 (omega arith) e in
        ap (λ b. cond (not b) (1 + position_or_len (λ (x : K × V). eq x.0 id) xs) 0) apart ∙ omega (arith, rest)

    -- among distinct ids it is the index of its id
    pub place_there : (xs : List (K × V)) (k : ℕ) (id : K) → IsDistinct eq (ids_of xs) → k < length xs → ((d : K × V) → eq (get_or xs k d).0 id ≡ true) → Some k ≡ position (λ (x : K × V). eq x.0 id) xs
    place_there xs k id a h e =
        let at : position_or_len (λ (x : K × V). eq x.0 id) xs ≡ k = some_of xs k h (λ d. first_there xs k d id a h (e d)) in
        sym (ap (λ n. cond (nat_lt n (length xs)) (Some n) None) at ∙ ap (λ b. cond b (Some k) None) (lt-ltb k (length xs) h))

    -- entries with distinct ids give the same values in whatever order they stand
    pub value_at-moved : (xs ys : List (K × V)) (id : K) → IsPermutation xs ys → IsDistinct eq (ids_of ys) → value_at eq ys id ≡ value_at eq xs id
    value_at-moved xs ys id m a =
        elim (value_at eq xs id) as (λ o. value_at eq xs id ≡ o → value_at eq ys id ≡ o) [
          | None ↦ λ e. value_at-missing ys id (sym (list_any-IsPermutation (λ (x : K × V). eq x.0 id) xs ys m) ∙ missing xs id e)
          | Some v ↦ λ e.
              let w = entry_there xs id v e in
              let c = Contains-permutation xs ys (w.0, v) m w.2 in
              found_there ys c.0 (w.0, v) id a c.1 (ap (λ (z : K × V). eq z.0 id) c.2 ∙ w.1) ∙ ap (λ (z : K × V). Some z.1) c.2
        ] refl

    -- distinct ids stay so where a value is set and the entries move
    pub distinct-moved : (flips : (x y : K) → eq x y ≡ eq y x) (xs ys : List (K × V)) (id : K) (v : V) → IsPermutation (with_value eq xs id v) ys → IsDistinct eq (ids_of xs) → IsDistinct eq (ids_of ys)
    distinct-moved flips xs ys id v m a =
        IsDistinct-IsPermutation eq flips (ids_of (with_value eq xs id v)) (ids_of ys)
        (IsPermutation-map (λ (x : K × V). x.0) (with_value eq xs id v) ys m)
        (subst (IsDistinct eq) (sym (ids-with_value xs id v)) a)

pub on_ok : {A E G : Type 0} (r : Result A E) → G → OnOk r G
on_ok (Ok x) g = g
on_ok (Err e) g = tt

-- a value that is no less than the id's is no less than that of a voter with the id
pub no_less : {V P : Type 0} (cmp : P → P → Ordering) (compared : V → P) (voter learner : Option V) (before value : V) → option_or voter learner ≡ Some before
    → (voter ≡ Some before → is_le (cmp (compared before) (compared value)) ≡ true) → IsNoLess cmp compared voter value
no_less cmp compared None learner before value e h = tt
no_less cmp compared (Some v) learner before value e h =
    let same : before ≡ v = cc e in subst (λ x. is_le (cmp (compared x) (compared value)) ≡ true) same (h e)

pub no_less_unless : {V P : Type 0} {cmp : P → P → Ordering} (o : IsTotalOrder cmp) (compared : V → P) (voter : Option V) (value : V) → lowers_value cmp compared voter value ≡ false → IsNoLess cmp compared voter value
no_less_unless o compared None value h = tt
no_less_unless o compared (Some before) value h = le_if_not_lt o (compared value) (compared before) h

-- nobody has an id that has no value
pub nobody_has : {K V P Q : Type 0} (eq : K → K → Bool) (p : Parts K V P Q) (id : K) → value_of eq p id ≡ None → has_value eq p id ≡ false
nobody_has {K} {V} eq p id h =
    elim (value_at eq p.voters id) as (λ o. value_at eq p.voters id ≡ o → option_or o (value_at eq p.learners id) ≡ None → has_value eq p id ≡ false) [
      | None ↦ λ e k. ap (λ b. b || has_node eq p.learners id) (missing eq p.voters id e) ∙ missing eq p.learners id k
      | Some v ↦ λ e k. cc k
    ] refl h

module _ {K V P Q : Type 0} (eq : K → K → Bool) (same : (x y : K) → eq x y ≡ true → x ≡ y) (old : Parts K V P Q) (id : K) (value : V) where
  -- a voter's value is set, and the voters may move
  pub sets_voter : (new : Parts K V P Q) → has_node eq old.voters id ≡ true → IsDistinct eq (ids_of new.voters)
      → IsPermutation (with_value eq old.voters id value) new.voters → new.learners ≡ old.learners
      → new.quorum_set ≡ old.quorum_set → new.built_with ≡ old.built_with → SetsValue eq old new id value
  sets_voter new has distinct moved learners quorum_set built_with = record {
    at_id = λ _. ap (λ o. option_or o (value_at eq new.learners id)) (value_at-moved eq same (with_value eq old.voters id value) new.voters id moved distinct ∙ value_set eq old.voters id value has);
    others = λ other apart.
        ap (λ o. option_or o (value_at eq new.learners other)) (value_at-moved eq same (with_value eq old.voters id value) new.voters other moved distinct ∙ value_kept eq same old.voters id other value apart)
        ∙ ap (λ l. option_or (value_at eq old.voters other) (value_at eq l other)) learners;
    voters = moved;
    learners = learners ∙ sym (ap (λ b. if b then old.learners else with_value eq old.learners id value) has);
    quorum_set = quorum_set;
    built_with = built_with;
    learner_grants_nothing = λ none. absurd (both_ways (has_node eq old.voters id) none has);
    unknown = λ none. absurd (both_ways (has_value eq old id) none (ap (λ b. b || has_node eq old.learners id) has));
  }

  -- a learner's value is set
  sets_this_learner : has_node eq old.voters id ≡ false → SetsValue eq old (record old { learners = with_value eq old.learners id value }) id value
  sets_this_learner none =
      let there : has_value eq old id ≡ has_node eq old.learners id = ap (λ b. b || has_node eq old.learners id) none in
      record {
        at_id = λ some.
            ap (λ o. option_or o (value_at eq (with_value eq old.learners id value) id)) (value_at-missing eq old.voters id none)
            ∙ value_set eq old.learners id value (sym there ∙ some);
        others = λ other apart. ap (λ o. option_or (value_at eq old.voters other) o) (value_kept eq same old.learners id other value apart);
        voters = subst (λ l. IsPermutation l old.voters) (sym (with_value-missing eq old.voters id value none)) (IsPermutation-refl old.voters);
        learners = sym (ap (λ b. if b then old.learners else with_value eq old.learners id value) none);
        quorum_set = refl;
        built_with = refl;
        learner_grants_nothing = λ _. refl;
        unknown = λ nobody. ap (λ l. record old { learners = l }) (with_value-missing eq old.learners id value (sym there ∙ nobody));
      }

  pub sets_learner : (learners : List (K × V)) → learners ≡ with_value eq old.learners id value → has_node eq old.voters id ≡ false
      → SetsValue eq old (record old { learners = learners }) id value
  sets_learner learners e none =
      subst (λ l. SetsValue eq old (record old { learners = l }) id value) (sym e) (sets_this_learner none)

  -- a value is written at an index
  pub written_voter : (at : ℕ) → has_node eq old.voters id ≡ true → with_value eq old.voters id value ≡ with_value_at old.voters at value → with_voter old at value ≡ written eq old id value
  written_voter at has e =
      sym (ap (λ b. if b then record old { voters = with_value eq old.voters id value } else record old { learners = with_value eq old.learners id value }) has
      ∙ ap (λ l. record old { voters = l }) e)

  pub written_learner : (at : ℕ) → has_node eq old.voters id ≡ false → with_value eq old.learners id value ≡ with_value_at old.learners at value → with_learner old at value ≡ written eq old id value
  written_learner at none e =
      sym (ap (λ b. if b then record old { voters = with_value eq old.voters id value } else record old { learners = with_value eq old.learners id value }) none
      ∙ ap (λ l. record old { learners = l }) e)

  -- a value is written where it stands
  pub sets_written : IsDistinct eq (ids_of old.voters) → SetsValue eq old (written eq old id value) id value
  sets_written distinct =
      elim (has_node eq old.voters id) as (λ b. has_node eq old.voters id ≡ b → SetsValue eq old (if b then record old { voters = with_value eq old.voters id value } else record old { learners = with_value eq old.learners id value }) id value) [
        | true ↦ λ has.
            sets_voter (record old { voters = with_value eq old.voters id value }) has
            (subst (IsDistinct eq) (sym (ids-with_value eq old.voters id value)) distinct)
            (IsPermutation-refl (with_value eq old.voters id value)) refl refl refl
        | false ↦ λ none. sets_this_learner none
      ] refl

module _ {K V : Type 0} (f : K → V) where
  abbrev pub beside : K → K × V
  beside id = (id, f id)

  pub ids-beside : (ids : List K) → ids_of (map beside ids) ≡ ids
  ids-beside [] = refl
  ids-beside (id ∷ ids) = ap (λ l. id ∷ l) (ids-beside ids)

module _ {K : Type 0} {eq : K → K → Bool} (cmp : K → K → Ordering) (matches : (x y : K) → eq x y ≡ is_eq (cmp x y)) where
  apart_above : (x : K) (xs : List K) → IsBelowAll cmp x xs → AllByRecursion (λ y. eq x y ≡ false) xs
  apart_above x [] h = tt
  apart_above x (y ∷ ys) h = (matches x y ∙ ap is_eq h.0, apart_above x ys h.1)

  -- rising ids are distinct
  pub rising_distinct : (xs : List K) → IsRising cmp xs → IsDistinct eq xs
  unfolding IsDistinct
  rising_distinct [] h = tt
  rising_distinct (x ∷ xs) h = (apart_above x xs h.0, rising_distinct xs h.1)

module _ {K V : Type 0} (eq : K → K → Bool) (same : (x y : K) → eq x y ≡ true → x ≡ y) (f : K → V) where
  -- what stands beside the id, if it is one of these
  pub value_at-beside : (ids : List K) (id : K) → value_at eq (map (beside f) ids) id ≡ (if has_id eq ids id then Some (f id) else None)
  value_at-beside [] id = refl
  value_at-beside (x ∷ xs) id =
      elim (eq x id) as (λ b. eq x id ≡ b → value_if b (x, f x) (entry_at eq (map (beside f) xs) id) ≡ (if (b || has_id eq xs id) then Some (f id) else None)) [
        | true ↦ λ e. ap (λ y. Some (f y)) (same x id e)
        | false ↦ λ e. value_at-beside xs id
      ] refl

first_of_two : {X : Type 0} (a b : Bool) (o : Option X) → option_or (if a then o else None) (if b then o else None) ≡ (if (a || b) then o else None)
first_of_two true true None = refl
first_of_two true true (Some x) = refl
first_of_two true false None = refl
first_of_two true false (Some x) = refl
first_of_two false b o = refl

module _ {K V P Q : Type 0} (eq : K → K → Bool) (same : (x y : K) → eq x y ≡ true → x ≡ y) (old : Parts K V P Q) (default : V) where
  abbrev kept : K → V
  kept id = unwrap_or (value_of eq old id) default

  -- entries made of rising ids, in whatever order, have distinct ids
  pub distinct-carried : (cmp : K → K → Ordering) (matches : (x y : K) → eq x y ≡ is_eq (cmp x y)) (flips : (x y : K) → eq x y ≡ eq y x)
      (members : List K) (voters : List (K × V)) → IsRising cmp members → IsPermutation (map (carried eq old default) members) voters → IsDistinct eq (ids_of voters)
  distinct-carried cmp matches flips members voters rising m =
      IsDistinct-IsPermutation eq flips (ids_of (map (carried eq old default) members)) (ids_of voters)
      (IsPermutation-map (λ (x : K × V). x.0) (map (carried eq old default) members) voters m)
      (subst (IsDistinct eq) (sym (ids-beside kept members)) (rising_distinct cmp matches members rising))

  pub upgraded : (new : Parts K V P Q) (counts : Q) (members learner_ids : List K) → IsDistinct eq (ids_of new.voters) → new.quorum_set ≡ counts
      → IsPermutation (map (carried eq old default) members) new.voters → new.learners ≡ map (carried eq old default) learner_ids
      → IsUpgraded eq old new counts members learner_ids default
  upgraded new counts members learner_ids distinct quorum_set moved learners = record {
    values = λ id.
        ap (λ o. option_or o (value_at eq new.learners id)) (value_at-moved eq same (map (carried eq old default) members) new.voters id moved distinct ∙ value_at-beside eq same kept members id)
        ∙ ap (λ l. option_or (if has_id eq members id then Some (kept id) else None) (value_at eq l id)) learners
        ∙ ap (λ o. option_or (if has_id eq members id then Some (kept id) else None) o) (value_at-beside eq same kept learner_ids id)
        ∙ first_of_two (has_id eq members id) (has_id eq learner_ids id) (Some (kept id));
    quorum_set = quorum_set;
    voters = moved;
    learners = learners;
  }
