-- The last of the leader's own log ids, found from the last key on.
use Rattle.std.proofs.Common.{◌≡◌, ℕ, zero, suc, ◌+◌, ◌-◌, ◌<◌, ◌≤◌, List, [], ◌∷◌, ◌++◌, length, get_or, drop, refl, ap, sym, ◌∙◌, subst, arith, inl, inr}
use Rattle.std.specs.Prelude.{Bool, true, false, ◌&&◌, nat_eq, nat_le, nat_lt, cond, filter, Option, Some, None, is_some}
use Rattle.std.specs.List.{AllByRecursion, last_or}
use Rattle.raft_values.specs.declared.vote.LeaderId.{LeaderId}
use Rattle.raft_values.specs.declared.log_id.LogId.{LogId}
use Rattle.raft_values.specs.LogId.{next_place}
use Rattle.raft_log_ids.specs.LogIdList.{IsBelowNext, end_of_key, ids_of, last_id, leader_ids, PlacesRise}
use Rattle.raft_log_ids.proofs.KeyEndLemmas.{end_above}
use Rattle.raft_log_ids.proofs.LogIdLemmas.{leader_ids-first, leader_ids-none}
use Rattle.raft_log_ids.proofs.LogIdListLemmas.{final, last_id-cons, last_id-ids_of}
use Rattle.std.proofs.lemmas.Bool.{and_right, le-leb}
use Rattle.std.proofs.lemmas.Bool.Decides.{leb_tells}
use Rattle.std.proofs.lemmas.List.{append-nil, drop_more}
use Rattle.std.proofs.lemmas.List.Elements.{filter-append}
use borrow.Author.Tests.{lt-ltb}
use Rattle.raft_leaders.specs.Leader.{end_of, is_of_leader}
use Rattle.raft_leaders.specs.Accepted.{last_own_within}

module _ {K : Type 0} where
  -- the places rise by one from this one on
  abbrev pub RisesFrom : ℕ → List (LogId K) → Type 0
  RisesFrom place [] = Unit {0}
  RisesFrom place (x ∷ xs) = (x.index ≡ place) × RisesFrom (place + 1) xs

  -- so many log ids of one leader
  run_rises : (leader : LeaderId K) (n from to : ℕ) (rest : List (LogId K)) → to ≡ from + n → RisesFrom to rest → RisesFrom from (leader_ids leader from to ++ rest)
  run_rises leader zero from to rest e h =
      rw (leader_ids-none leader from to (omega arith)) (let at : to ≡ from = omega arith in subst (λ k. RisesFrom k rest) at h)
  run_rises leader (suc n) from to rest e h =
      rw (leader_ids-first leader from to (omega arith)) (refl, run_rises leader n (from + 1) to rest (omega arith) h)

  -- where the keys' places rise, those of the full list rise by one from the first key's on
  pub full_rises : (key : LogId K) (keys : List (LogId K)) → PlacesRise (key ∷ keys) → RisesFrom key.index (ids_of (key ∷ keys))
  full_rises key [] h = run_rises key.leader_id 1 key.index (key.index + 1) [] refl tt
  full_rises key (next ∷ keys) h =
      run_rises key.leader_id (next.index - key.index) key.index next.index (ids_of (next ∷ keys)) (let below : key.index < next.index = h.0 in omega arith) (full_rises next keys h.1)

  -- all stand below the end
  final_place : (x : LogId K) (xs : List (LogId K)) (place : ℕ) → RisesFrom place (x ∷ xs) → (final x xs).index ≡ place + length xs
  final_place x [] place h = let at : x.index ≡ place = h.0 in omega arith
  final_place x (y ∷ ys) place h = let e = final_place y ys (place + 1) h.1 in omega arith

  all_below : (xs : List (LogId K)) (place end : ℕ) → RisesFrom place xs → end ≡ place + length xs → AllByRecursion (λ x. x.index < end) xs
  all_below [] place end h e = tt
  all_below (x ∷ xs) place end h e = ((let at : x.index ≡ place = h.0 in omega arith), all_below xs (place + 1) end h.1 (omega arith))

  pub all_below_end : (xs : List (LogId K)) (place : ℕ) → RisesFrom place xs → AllByRecursion (λ x. x.index < end_of xs) xs
  all_below_end [] place h = tt
  all_below_end (x ∷ xs) place h =
      all_below (x ∷ xs) place (end_of (x ∷ xs)) h
      (ap next_place (last_id-cons x xs) ∙ (let at = final_place x xs place h in omega arith))

-- a filter keeps the same where the tests agree on each
pub filter-agrees : {X : Type 0} (p r : X → Bool) (P : X → Type 0) → ((x : X) → P x → p x ≡ r x) → (xs : List X) → AllByRecursion P xs → filter p xs ≡ filter r xs
filter-agrees p r P same [] h = refl
filter-agrees p r P same (x ∷ xs) h =
    ap (λ b. cond b (x ∷ filter p xs) (filter p xs)) (same x h.0) ∙ ap (λ l. cond (r x) (x ∷ l) l) (filter-agrees p r P same xs h.1)

-- ---- the last own log id among those that a key tells

last_of_more : {X : Type 0} (o : Option X) (xs : List X) (y : X) → last_or None xs ≡ Some y → last_or o xs ≡ Some y
last_of_more o [] y h = cc h
last_of_more o (x ∷ xs) y h = h

last_behind : {X : Type 0} (o : Option X) (xs ys : List X) (y : X) → last_or None ys ≡ Some y → last_or o (xs ++ ys) ≡ Some y
last_behind o [] ys y h = last_of_more o ys y h
last_behind o (x ∷ xs) ys y h = last_behind (Some x) xs ys y h

last_before : {X : Type 0} (xs ys : List X) → ys ≡ [] → last_or None (xs ++ ys) ≡ last_or None xs
last_before xs ys h = ap (λ l. last_or None (xs ++ l)) h ∙ ap (last_or None) (append-nil xs)

none_before : {X : Type 0} (test : X → Bool) (xs ys : List X) → filter test xs ≡ [] → filter test ys ≡ [] → filter test (xs ++ ys) ≡ []
none_before test xs ys h k = filter-append test xs ys ∙ ap (λ l. l ++ filter test ys) h ∙ k

pub end_is_next : (key : LogId ℕ) (rest : List (LogId ℕ)) (d : LogId ℕ) → 1 ≤ length rest → end_of_key key rest ≡ (get_or rest 0 d).index
end_is_next key [] d h = absurd (omega arith)
end_is_next key (next ∷ rest) d h = refl

-- where a next key stands, it stands above
pub next_above : (key : LogId ℕ) (rest : List (LogId ℕ)) (d : LogId ℕ) → 1 ≤ length rest → IsBelowNext key rest → key.index < (get_or rest 0 d).index
next_above key [] d h k = absurd (omega arith)
next_above key (next ∷ rest) d h k = k

-- each key stands below the next one
pub key_apart : (keys : List (LogId ℕ)) (at : ℕ) (d : LogId ℕ) → at < length keys → PlacesRise keys
    → IsBelowNext (get_or keys at d) (drop (at + 1) keys)
key_apart [] at d l h = absurd (omega arith)
key_apart (key ∷ keys) zero d l h = h.0
key_apart (key ∷ keys) (suc at) d l h =
    let more : suc at + 1 ≡ suc (at + 1) = omega arith in
    rw more (key_apart keys at d (omega arith) h.1)

last_is_some : {X : Type 0} (x : X) (xs : List X) → last_or (Some x) xs ≡ None → ⊥
last_is_some x [] h = cc h
last_is_some x (y ∷ ys) h = last_is_some y ys h

none_if_last : {X : Type 0} (xs : List X) → last_or None xs ≡ None → xs ≡ []
none_if_last [] h = refl
none_if_last (x ∷ xs) h = absurd (last_is_some x xs h)

-- a key ends no higher than any key behind it
end_within : (key : LogId ℕ) (keys : List (LogId ℕ)) (at : ℕ) (d : LogId ℕ) → at < length keys → PlacesRise keys → end_of_key key keys ≤ (get_or keys at d).index
end_within key [] at d l h = absurd (omega arith)
end_within key (next ∷ keys) zero d l h = omega arith
end_within key (next ∷ keys) (suc at) d l h =
    let more : end_of_key next keys ≤ (get_or keys at d).index = end_within next keys at d (omega arith) h.1 in
    let past : next.index ≤ end_of_key next keys = past_key next keys h.0 in
    let on : next.index ≤ (get_or keys at d).index = omega arith in on
  where
    past_key : (key : LogId ℕ) (rest : List (LogId ℕ)) → IsBelowNext key rest → key.index ≤ end_of_key key rest
    past_key key rest h = let l = end_above key rest h in omega arith

module _ (leader : LeaderId ℕ) (from below : ℕ) where
  abbrev pub is_own_within : LogId ℕ → Bool
  is_own_within x = is_of_leader nat_eq leader x && (nat_le from x.index && nat_lt x.index below)

  abbrev id_of : LeaderId ℕ → ℕ → LogId ℕ
  id_of own place = record { leader_id = own; index = place }

  -- none of one leader's log ids where none of their places passes
  none_of_run : (own : LeaderId ℕ) (n start to : ℕ) → to ≡ start + n → ((place : ℕ) → start ≤ place → place < to → is_own_within (id_of own place) ≡ false)
      → filter is_own_within (leader_ids own start to) ≡ []
  none_of_run own zero start to e f = ap (filter is_own_within) (leader_ids-none own start to (omega arith))
  none_of_run own (suc n) start to e f =
      ap (filter is_own_within) (leader_ids-first own start to (omega arith))
      ∙ ap (λ b. cond b (id_of own start ∷ filter is_own_within (leader_ids own (start + 1) to)) (filter is_own_within (leader_ids own (start + 1) to))) (f start (omega arith) (omega arith))
      ∙ none_of_run own n (start + 1) to (omega arith) (λ place l m. f place (omega arith) m)

  past_below : (own : LeaderId ℕ) (place : ℕ) → below ≤ place → is_own_within (id_of own place) ≡ false
  past_below own place h =
      elim (leb_tells (suc place) below) [
        | inl w ↦ absurd (omega (arith, w.1))
        | inr w ↦ ap (λ b. is_of_leader nat_eq leader (id_of own place) && (nat_le from place && b)) w.0
            ∙ ap (λ b. is_of_leader nat_eq leader (id_of own place) && b) (and_right (nat_le from place) false refl)
            ∙ and_right (is_of_leader nat_eq leader (id_of own place)) false refl
      ]

  before_from : (own : LeaderId ℕ) (place : ℕ) → place < from → is_own_within (id_of own place) ≡ false
  before_from own place h =
      elim (leb_tells from place) [
        | inl w ↦ absurd (omega (arith, w.1))
        | inr w ↦ ap (λ b. is_of_leader nat_eq leader (id_of own place) && (b && nat_lt place below)) w.0
            ∙ and_right (is_of_leader nat_eq leader (id_of own place)) false refl
      ]

  -- nor of any log ids where the bounds are none
  pub none_between : below ≤ from → (xs : List (LogId ℕ)) → filter is_own_within xs ≡ []
  none_between h [] = refl
  none_between h (x ∷ xs) =
      ap (λ b. cond b (x ∷ filter is_own_within xs) (filter is_own_within xs))
      (elim (leb_tells from x.index) as (λ w. is_own_within x ≡ false) [
        | inl w ↦ past_below x.leader_id x.index (omega (arith, w.1))
        | inr w ↦ before_from x.leader_id x.index (omega (arith, w.1))
      ])
      ∙ none_between h xs

  -- the last of one leader's own is the last one below
  last_of_run : (o : Option (LogId ℕ)) (own : LeaderId ℕ) (n start to last : ℕ) → is_of_leader nat_eq leader (id_of own 0) ≡ true
      → to ≡ start + n → start ≤ last → last < to → from ≤ last → last < below → ((place : ℕ) → last < place → place < to → below ≤ place)
      → last_or o (filter is_own_within (leader_ids own start to)) ≡ Some (id_of own last)
  last_of_run o own zero start to last mine e l m j k f = absurd (omega arith)
  last_of_run o own (suc n) start to last mine e l m j k f =
      let rest = filter is_own_within (leader_ids own (start + 1) to) in
      ap (λ l. last_or o (filter is_own_within l)) (leader_ids-first own start to (omega arith))
      ∙ elim (leb_tells last start) [
        | inl w ↦
            let here : start ≡ last = omega (arith, w.1) in
            let passes : is_own_within (id_of own start) ≡ true =
            ap (λ b. b && (nat_le from start && nat_lt start below)) mine ∙ ap (λ b. b && nat_lt start below) (le-leb from start (omega arith)) ∙ lt-ltb start below (omega arith) in
            ap (λ b. last_or o (cond b (id_of own start ∷ rest) rest)) passes
            ∙ ap (last_or (Some (id_of own start))) (none_of_run own n (start + 1) to (omega arith) (λ place a b. past_below own place (f place (omega arith) b)))
            ∙ ap (λ place. Some (id_of own place)) here
        | inr w ↦
            elim (is_own_within (id_of own start)) as (λ b. last_or o (cond b (id_of own start ∷ rest) rest) ≡ Some (id_of own last)) [
              | true ↦ last_of_run (Some (id_of own start)) own n (start + 1) to last mine (omega arith) (omega (arith, w.1)) m j k f
              | false ↦ last_of_run o own n (start + 1) to last mine (omega arith) (omega (arith, w.1)) m j k f
            ]
      ]

  -- none of the key's where none of its places passes
  none_told : (key : LogId ℕ) (rest : List (LogId ℕ)) → IsBelowNext key rest
      → ((place : ℕ) → key.index ≤ place → place < end_of_key key rest → is_own_within (id_of key.leader_id place) ≡ false)
      → None ≡ last_own_within leader from below (leader_ids key.leader_id key.index (end_of_key key rest))
  none_told key rest h f =
      sym (ap (last_or None) (none_of_run key.leader_id (end_of_key key rest - key.index) key.index (end_of_key key rest) (let l = end_above key rest h in omega arith) f))

  -- as where it is another's, stands no lower, or ends below
  pub none_under : (key : LogId ℕ) (rest : List (LogId ℕ)) → IsBelowNext key rest → is_of_leader nat_eq leader key ≡ false
      → None ≡ last_own_within leader from below (leader_ids key.leader_id key.index (end_of_key key rest))
  none_under key rest h other = none_told key rest h (λ place l m. ap (λ b. b && (nat_le from place && nat_lt place below)) other)

  pub none_at : (key : LogId ℕ) (rest : List (LogId ℕ)) → IsBelowNext key rest → below ≤ key.index
      → None ≡ last_own_within leader from below (leader_ids key.leader_id key.index (end_of_key key rest))
  none_at key rest h past = none_told key rest h (λ place l m. past_below key.leader_id place (omega arith))

  pub none_up_to : (key : LogId ℕ) (rest : List (LogId ℕ)) (last : ℕ) → IsBelowNext key rest → last < from
      → ((place : ℕ) → last < place → place < end_of_key key rest → below ≤ place)
      → None ≡ last_own_within leader from below (leader_ids key.leader_id key.index (end_of_key key rest))
  none_up_to key rest last h l f =
      none_told key rest h
      (λ place a b.
      elim (leb_tells place last) [
        | inl w ↦ before_from key.leader_id place (omega (arith, w.1))
        | inr w ↦ past_below key.leader_id place (f place (omega (arith, w.1)) b)
      ])

  -- the last of the key's that stands below
  pub some_under : (key : LogId ℕ) (rest : List (LogId ℕ)) (last : ℕ) → is_of_leader nat_eq leader key ≡ true → key.index ≤ last → last < end_of_key key rest → from ≤ last → last < below
      → ((place : ℕ) → last < place → place < end_of_key key rest → below ≤ place)
      → Some (id_of key.leader_id last) ≡ last_own_within leader from below (leader_ids key.leader_id key.index (end_of_key key rest))
  some_under key rest last mine l m j k f =
      sym (last_of_run None key.leader_id (end_of_key key rest - key.index) key.index (end_of_key key rest) last mine (omega arith) l m j k f)

  -- ---- and among those that all keys tell

  abbrev pub told : List (LogId ℕ) → ℕ → LogId ℕ → List (LogId ℕ)
  told keys at d = leader_ids (get_or keys at d).leader_id (get_or keys at d).index (end_of_key (get_or keys at d) (drop (at + 1) keys))

  pub with_key : (keys : List (LogId ℕ)) (at : ℕ) (d : LogId ℕ) → at < length keys → ids_of (drop at keys) ≡ told keys at d ++ ids_of (drop (at + 1) keys)
  with_key keys at d l = ap ids_of (drop_more keys at d l)

  -- none so far, and none of this key's
  pub none_more : (keys : List (LogId ℕ)) (at : ℕ) (d : LogId ℕ) → at < length keys → filter is_own_within (ids_of (drop (at + 1) keys)) ≡ []
      → last_own_within leader from below (told keys at d) ≡ None → filter is_own_within (ids_of (drop at keys)) ≡ []
  none_more keys at d l h e =
      ap (filter is_own_within) (with_key keys at d l) ∙ none_before is_own_within (told keys at d) (ids_of (drop (at + 1) keys)) (none_if_last (filter is_own_within (told keys at d)) e) h

  -- what is last from a key on is last of all
  from_key : (keys : List (LogId ℕ)) (at : ℕ) (id : LogId ℕ) → last_own_within leader from below (ids_of (drop at keys)) ≡ Some id → last_own_within leader from below (ids_of keys) ≡ Some id
  from_key keys zero id h = h
  from_key [] (suc at) id h = h
  from_key (key ∷ keys) (suc at) id h =
      ap (last_or None) (filter-append is_own_within (leader_ids key.leader_id key.index (end_of_key key keys)) (ids_of keys))
      ∙ last_behind None (filter is_own_within (leader_ids key.leader_id key.index (end_of_key key keys))) (filter is_own_within (ids_of keys)) id (from_key keys at id h)

  -- the last of this key's, where none stands behind it
  pub last_found : (keys : List (LogId ℕ)) (at : ℕ) (d id : LogId ℕ) → at < length keys → filter is_own_within (ids_of (drop (at + 1) keys)) ≡ []
      → last_own_within leader from below (told keys at d) ≡ Some id → last_own_within leader from below (ids_of keys) ≡ Some id
  last_found keys at d id l h e =
      from_key keys at id
      (ap (λ ids. last_or None (filter is_own_within ids)) (with_key keys at d l)
      ∙ ap (last_or None) (filter-append is_own_within (told keys at d) (ids_of (drop (at + 1) keys)))
      ∙ last_before (filter is_own_within (told keys at d)) (filter is_own_within (ids_of (drop (at + 1) keys))) h
      ∙ e)

  -- what is found so is the last of all
  pub found_is : (keys : List (LogId ℕ)) (at : ℕ) (d : LogId ℕ) (o : Option (LogId ℕ)) → at < length keys → filter is_own_within (ids_of (drop (at + 1) keys)) ≡ []
      → is_some o ≡ true → o ≡ last_own_within leader from below (told keys at d) → o ≡ last_own_within leader from below (ids_of keys)
  found_is keys at d None l h k e = cc k
  found_is keys at d (Some id) l h k e = sym (last_found keys at d id l h (sym e))

  -- none stands before a key that stands no higher than the first place
  pub none_before_key : (keys : List (LogId ℕ)) (at : ℕ) (d : LogId ℕ) → at < length keys → PlacesRise keys → (get_or keys at d).index ≤ from
      → filter is_own_within (ids_of (drop at keys)) ≡ [] → filter is_own_within (ids_of keys) ≡ []
  none_before_key [] at d l h low none = absurd (omega arith)
  none_before_key (key ∷ keys) zero d l h low none = none
  none_before_key (key ∷ keys) (suc at) d l h low none =
      let end : end_of_key key keys ≤ (get_or keys at d).index = end_within key keys at d (omega arith) h.1 in
      none_before is_own_within (leader_ids key.leader_id key.index (end_of_key key keys)) (ids_of keys)
      (none_of_run key.leader_id (end_of_key key keys - key.index) key.index (end_of_key key keys) (let l = end_above key keys h.0 in omega arith) (λ place a b. before_from key.leader_id place (omega arith)))
      (none_before_key keys at d (omega arith) h.1 low none)

pub none_if : {X : Type 0} (o : Option X) → is_some o ≡ false → o ≡ None
none_if None e = refl
none_if (Some x) e = cc e

-- the log ids of a list are those that its keys stand for, so they rise by one
pub rises_or_none : (keys ids : List (LogId ℕ)) → PlacesRise keys → ids_of keys ≡ ids → AllByRecursion (λ x. x.index < end_of ids) ids
rises_or_none [] ids h e = subst (λ l. AllByRecursion (λ x. x.index < end_of l) l) e tt
rises_or_none (key ∷ keys) ids h e =
    subst (λ l. AllByRecursion (λ x. x.index < end_of l) l) e (all_below_end (ids_of (key ∷ keys)) key.index (full_rises key keys h))

-- the end of the keys is the end of the list
pub end_is : (keys ids : List (LogId ℕ)) → PlacesRise keys → ids_of keys ≡ ids → next_place (last_id keys) ≡ end_of ids
end_is keys ids h e = sym (ap next_place (last_id-ids_of keys h)) ∙ ap end_of e
