-- What a leader wrote, by the keys of its log: none of it stands below the first key of its own.
use Rattle.std.proofs.Common.{◌≡◌, ℕ, zero, suc, ◌+◌, ◌-◌, ◌<◌, ◌≤◌, List, [], ◌∷◌, ◌++◌, refl, ap, sym, ◌∙◌, subst, arith}
use Rattle.std.specs.Prelude.{Bool, true, false, nat_eq, find, cond, unwrap_or, Some}
use Rattle.std.proofs.Math.Bool.{true≢false}
use Rattle.raft_values.specs.declared.vote.LeaderId.{LeaderId}
use Rattle.raft_values.specs.declared.log_id.LogId.{LogId}
use Rattle.raft_values.specs.LogId.{next_place}
use Rattle.raft_log_ids.specs.LogIdList.{IsBelowNext, PlacesRise, end_of_key, ids_of, leader_ids}
use Rattle.raft_log_ids.proofs.LogIdLemmas.{leader_ids-first, leader_ids-none}
use Rattle.raft_log_ids.proofs.LogIdListLemmas.{last_id-cons}
use Rattle.raft_leaders.specs.Leader.{end_of, first_log_id, id_of_leader, is_of_leader}
use Rattle.raft_leaders.specs.Accepted.{WroteNoneBelow}
use Rattle.raft_leaders.proofs.OwnLemmas.{RisesFrom, full_rises}

module _ (leader : LeaderId ℕ) where
  -- places that rise from one that isn't lower are none below
  none_below : (place at : ℕ) (ids : List (LogId ℕ)) → place ≤ at → RisesFrom at ids → WroteNoneBelow leader place ids
  none_below place at [] l h = tt
  none_below place at (x ∷ xs) l h =
      ((λ mine. let here : x.index ≡ at = h.0 in omega arith), none_below place (at + 1) xs (omega arith) h.1)

  -- log ids of another leader say nothing of this one's
  others_in_front : (place : ℕ) (other : LeaderId ℕ) (n from to : ℕ) (rest : List (LogId ℕ)) → to ≡ from + n → is_of_leader nat_eq leader (id_of_leader other 0) ≡ false
      → WroteNoneBelow leader place rest → WroteNoneBelow leader place (leader_ids other from to ++ rest)
  others_in_front place other zero from to rest e f h = rw (leader_ids-none other from to (omega arith)) h
  others_in_front place other (suc n) from to rest e f h =
      rw (leader_ids-first other from to (omega arith))
      ((λ mine. absurd (true≢false (sym mine ∙ f))), others_in_front place other n (from + 1) to rest (omega arith) f h)

  -- where a key ends, so many places on
  key_ends : (key : LogId ℕ) (keys : List (LogId ℕ)) → IsBelowNext key keys → end_of_key key keys ≡ key.index + (end_of_key key keys - key.index)
  key_ends key [] h = omega arith
  key_ends key (next ∷ keys) h = let l : key.index < next.index = h in omega arith

  -- a key of another leader in front
  other_key : (place : ℕ) (key : LogId ℕ) (keys : List (LogId ℕ)) → PlacesRise (key ∷ keys) → is_of_leader nat_eq leader key ≡ false
      → WroteNoneBelow leader place (ids_of keys) → WroteNoneBelow leader place (ids_of (key ∷ keys))
  other_key place key keys rise f h =
      others_in_front place key.leader_id (end_of_key key keys - key.index) key.index (end_of_key key keys) (ids_of keys) (key_ends key keys rise.0) f h

  -- an own key is the first of all behind it
  own_key : (place : ℕ) (key : LogId ℕ) (keys : List (LogId ℕ)) → PlacesRise (key ∷ keys) → place ≤ key.index → WroteNoneBelow leader place (ids_of (key ∷ keys))
  own_key place key keys rise l = none_below place key.index (ids_of (key ∷ keys)) l (full_rises key keys rise)

  -- ---- the log id of the leader's first entry

  end_behind : (key next : LogId ℕ) (keys : List (LogId ℕ)) → end_of (key ∷ next ∷ keys) ≡ end_of (next ∷ keys)
  end_behind key next keys = ap next_place (last_id-cons key (next ∷ keys) ∙ sym (last_id-cons next keys))

  abbrev first_of : List (LogId ℕ) → ℕ → LogId ℕ
  first_of keys end = unwrap_or (find (is_of_leader nat_eq leader) keys) (id_of_leader leader end)

  abbrev first_or : Bool → LogId ℕ → List (LogId ℕ) → LogId ℕ
  first_or mine key keys = unwrap_or (cond mine (Some key) (find (is_of_leader nat_eq leader) keys)) (id_of_leader leader (end_of (key ∷ keys)))

  -- the first of a key and those behind it
  of_key : (key : LogId ℕ) (keys : List (LogId ℕ)) → PlacesRise (key ∷ keys) → WroteNoneBelow leader (first_of keys (end_of (key ∷ keys))).index (ids_of keys)
      → WroteNoneBelow leader (first_log_id nat_eq leader (key ∷ keys)).index (ids_of (key ∷ keys))
  of_key key keys rise rest =
      elim (is_of_leader nat_eq leader key) as (λ b. is_of_leader nat_eq leader key ≡ b → WroteNoneBelow leader (first_or b key keys).index (ids_of (key ∷ keys))) [
        | true ↦ λ t. own_key key.index key keys rise (omega arith)
        | false ↦ λ f. other_key (first_of keys (end_of (key ∷ keys))).index key keys rise f rest
      ] refl

  pub first_is_first : (keys : List (LogId ℕ)) → PlacesRise keys → WroteNoneBelow leader (first_log_id nat_eq leader keys).index (ids_of keys)
  first_is_first [] rise = tt
  first_is_first (key ∷ []) rise = of_key key [] rise tt
  first_is_first (key ∷ next ∷ keys) rise =
      of_key key (next ∷ keys) rise
      (subst (λ end. WroteNoneBelow leader (first_of (next ∷ keys) end).index (ids_of (next ∷ keys))) (sym (end_behind key next keys)) (first_is_first (next ∷ keys) rise.1))

  -- it stands in the log, or right behind it
  key_within : (key : LogId ℕ) (keys : List (LogId ℕ)) → PlacesRise (key ∷ keys) → key.index < end_of (key ∷ keys)
  key_within key [] rise = omega arith
  key_within key (next ∷ keys) rise =
      let l : key.index < next.index = rise.0 in
      let m : next.index < end_of (next ∷ keys) = key_within next keys rise.1 in
      let e = end_behind key next keys in omega arith

  within_of_key : (key : LogId ℕ) (keys : List (LogId ℕ)) → PlacesRise (key ∷ keys) → (first_of keys (end_of (key ∷ keys))).index ≤ end_of (key ∷ keys)
      → (first_log_id nat_eq leader (key ∷ keys)).index ≤ end_of (key ∷ keys)
  within_of_key key keys rise rest =
      elim (is_of_leader nat_eq leader key) as (λ b. (first_or b key keys).index ≤ end_of (key ∷ keys)) [
        | true ↦ let l = key_within key keys rise in omega arith
        | false ↦ rest
      ]

  pub first_within : (keys : List (LogId ℕ)) → PlacesRise keys → (first_log_id nat_eq leader keys).index ≤ end_of keys
  first_within [] rise = omega arith
  first_within (key ∷ []) rise = within_of_key key [] rise (omega arith)
  first_within (key ∷ next ∷ keys) rise =
      within_of_key key (next ∷ keys) rise
      (subst (λ end. (first_of (next ∷ keys) end).index ≤ end) (sym (end_behind key next keys)) (first_within (next ∷ keys) rise.1))
