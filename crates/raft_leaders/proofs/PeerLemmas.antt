-- What is known of each peer stays where the quorum set changes.
use Rattle.std.proofs.Common.{◌≡◌, List, [], ◌∷◌, ◌++◌, refl, ap, sym, ◌∙◌, subst}
use Rattle.std.specs.Prelude.{Bool, true, false, not, ◌&&◌, ◌||◌, cond, if◌then◌else◌, filter, Option, Some, None, unwrap_or}
use Rattle.std.specs.Option.{option_or}
use Rattle.std.proofs.Math.Bool.{true≢false}
use Rattle.std.proofs.lemmas.List.Folds.{list_any-append}
use Rattle.raft_values.specs.declared.log_id.LogId.{LogId}
use Rattle.raft_values.specs.LogId.{next_place, place_of}
use Rattle.raft_values.specs.LogIndex.{next_of}
use Rattle.raft_quorums.specs.Nodes.{has_id, has_node}
use Rattle.raft_progress.specs.Parts.{Parts, IsUpgraded, SetsValue, has_value, ids_of, value_of}
use Rattle.raft_progress.specs.Values.{value_at}
use Rattle.raft_progress.proofs.PartsLemmas.{value_at-missing}
use Rattle.raft_leaders.specs.Leader.{left_among, left_ids}

pub next_is : {K : Type 0} (last : Option (LogId K)) → next_of (place_of last) ≡ next_place last
next_is None = refl
next_is (Some id) = refl

none_is_not_some : {X G : Type 0} (x : X) → None ≡ Some x → G
none_is_not_some x e = cc e

module _ {K V P Q : Type 0} (eq : K → K → Bool) (p : Parts K V P Q) (id : K) where
  -- somebody has an id that has a value
  pub somebody_has : (value : V) → value_of eq p id ≡ Some value → has_value eq p id ≡ true
  somebody_has value e =
      elim (has_node eq p.voters id) as (λ a. has_node eq p.voters id ≡ a → (a || has_node eq p.learners id) ≡ true) [
        | true ↦ λ h. refl
        | false ↦ λ h. elim (has_node eq p.learners id) as (λ b. has_node eq p.learners id ≡ b → b ≡ true) [
          | true ↦ λ k. refl
          | false ↦ λ k. none_is_not_some value
              (sym (ap (λ o. option_or o (value_at eq p.learners id)) (value_at-missing eq p.voters id h) ∙ value_at-missing eq p.learners id k) ∙ e)
        ] refl
      ] refl

  -- where nobody has the id, setting its value leaves all as it was
  pub nothing_set : (new : Parts K V P Q) (value : V) → has_value eq p id ≡ false → SetsValue eq p new id value → SetsValue eq p p id value
  nothing_set new value none sets = subst (λ q. SetsValue eq p q id value) (sets.unknown none) sets

-- an increase leaves the value that the progress was built with
pub built_stays : {K V P Q : Type 0} (eq : K → K → Bool) (old new : Parts K V P Q) (id : K) (value : V) (rises : Bool)
    → (rises ≡ true → SetsValue eq old new id value) → (rises ≡ false → new ≡ old) → new.built_with ≡ old.built_with
built_stays eq old new id value true f g = (f refl).built_with
built_stays eq old new id value false f g = ap (λ p. p.built_with) (g refl)

-- one more entry whose id may be left
pub left-more : {K V : Type 0} (eq : K → K → Bool) (members learner_ids : List K) (x : K × V) (xs : List (K × V))
    → left_among eq members learner_ids (x ∷ []) ++ left_among eq members learner_ids xs ≡ left_among eq members learner_ids (x ∷ xs)
left-more eq members learner_ids x xs =
    elim (not (has_id eq members x.0) && not (has_id eq learner_ids x.0)) as (λ b.
    cond b (x.0 ∷ []) [] ++ left_among eq members learner_ids xs ≡ cond b (x.0 ∷ left_among eq members learner_ids xs) (left_among eq members learner_ids xs)) [
      | true ↦ refl
      | false ↦ refl
    ]

module _ {K : Type 0} (eq : K → K → Bool) (same : (x y : K) → eq x y ≡ true → x ≡ y) where
  has_id-ids : {V : Type 0} (entries : List (K × V)) (id : K) → has_id eq (ids_of entries) id ≡ has_node eq entries id
  has_id-ids [] id = refl
  has_id-ids (x ∷ xs) id = ap (λ b. eq x.0 id || b) (has_id-ids xs id)

  has_id-filter : (test : K → Bool) (ids : List K) (id : K) → has_id eq ids id ≡ true → test id ≡ true → has_id eq (filter test ids) id ≡ true
  has_id-filter test [] id h k = h
  has_id-filter test (x ∷ xs) id h k =
      elim (eq x id) as (λ b. eq x id ≡ b → (b || has_id eq xs id) ≡ true → has_id eq (cond (test x) (x ∷ filter test xs) (filter test xs)) id ≡ true) [
        | true ↦ λ e _. subst (λ b. has_id eq (cond b (x ∷ filter test xs) (filter test xs)) id ≡ true) (sym (ap test (same x id e) ∙ k)) (ap (λ b. b || has_id eq (filter test xs) id) e)
        | false ↦ λ e m. elim (test x) as (λ b. has_id eq (cond b (x ∷ filter test xs) (filter test xs)) id ≡ true) [
          | true ↦ ap (λ b. b || has_id eq (filter test xs) id) e ∙ has_id-filter test xs id m k
          | false ↦ has_id-filter test xs id m k
        ]
      ] refl h

  -- an id that has a value is a member, or among the learners and those that are left
  all_kept : {V P Q : Type 0} (p : Parts K V P Q) (members learner_ids : List K) (id : K) → has_value eq p id ≡ true
      → (has_id eq members id || has_id eq (learner_ids ++ left_ids eq p members learner_ids) id) ≡ true
  all_kept p members learner_ids id h =
      let there : has_id eq (ids_of (p.voters ++ p.learners)) id ≡ true = has_id-ids (p.voters ++ p.learners) id ∙ list_any-append (λ x. eq x.0 id) p.voters p.learners ∙ h in
      let left = left_ids eq p members learner_ids in
      elim (has_id eq members id) as (λ a. has_id eq members id ≡ a → (a || has_id eq (learner_ids ++ left) id) ≡ true) [
        | true ↦ λ a. refl
        | false ↦ λ a. list_any-append (λ x. eq x id) learner_ids left ∙ elim (has_id eq learner_ids id) as (λ b. has_id eq learner_ids id ≡ b → (b || has_id eq left id) ≡ true) [
          | true ↦ λ b. refl
          | false ↦ λ b. has_id-filter (λ i. not (has_id eq members i) && not (has_id eq learner_ids i)) (ids_of (p.voters ++ p.learners)) id there
              (ap (λ c. not c && not (has_id eq learner_ids id)) a ∙ ap not b)
        ] refl
      ] refl

  kept_value : {V : Type 0} (there : Bool) (before : Option V) (default : V) → ((v : V) → before ≡ Some v → there ≡ true)
      → unwrap_or (if there then Some (unwrap_or before default) else None) default ≡ unwrap_or before default
  kept_value true before default f = refl
  kept_value false None default f = refl
  kept_value false (Some v) default f = absurd (true≢false (sym (f v refl)))

  -- each value, or else the default, stays
  pub values_stay : {V P Q : Type 0} (old new : Parts K V P Q) (counts : Q) (members learner_ids : List K) (default : V)
      → IsUpgraded eq old new counts members (learner_ids ++ left_ids eq old members learner_ids) default → (id : K)
      → unwrap_or (value_of eq new id) default ≡ unwrap_or (value_of eq old id) default
  values_stay old new counts members learner_ids default upgraded id =
      ap (λ o. unwrap_or o default) (upgraded.values id)
      ∙ kept_value (has_id eq members id || has_id eq (learner_ids ++ left_ids eq old members learner_ids) id) (value_of eq old id) default
      (λ v e. all_kept old members learner_ids id (somebody_has eq old id v e))
