-- What comes behind keys leaves keys, whether it is one key more or takes the place of the last one.
use Rattle.std.proofs.Common.{◌≡◌, ℕ, suc, ◌+◌, ◌-◌, ◌<◌, ◌≤◌, true, false, List, [], ◌∷◌, ◌++◌, length, set, get_or, refl, ap, sym, subst, ◌∙◌, arith, append-nil, append_assoc}
use Rattle.std.specs.Prelude.{Some}
use Rattle.std.specs.declared.cmp.Ordering.{Ordering}
use Rattle.std.specs.declared.cmp.Ordering.TheVariants.{Less, Equal, Greater}
use Rattle.std.specs.Ordering.{is_eq, ordering_then, nat_cmp}
use Rattle.std.proofs.lemmas.Bool.Decides.{nat_tests}
use Rattle.raft_values.specs.declared.vote.LeaderId.{LeaderId}
use Rattle.raft_values.specs.declared.log_id.LogId.{LogId}
use Rattle.raft_values.specs.Vote.{leader_cmp}
use Rattle.raft_log_ids.specs.LogIdList.{leader_ids, ids_of, last_id, appended, PlacesRise, ends_in_pair, LeadersChange, AreKeys, GoesOn}
use Rattle.raft_log_ids.proofs.LogIdLemmas.{leader_ids-join, leader_ids-one}
use Rattle.raft_log_ids.proofs.LogIdListLemmas.{final, last_id-cons, appended-after}

-- numbers that compare equal are equal
same_by_order : (a b : ℕ) → nat_cmp a b ≡ Equal → a ≡ b
same_by_order a b e = grind (arith, nat_tests, e)

module _ {K : Type 0} (cmp : K → K → Ordering) (told_apart : (x y : K) → is_eq (cmp x y) ≡ true → x ≡ y) where
  abbrev leader : ℕ → K → LeaderId K
  leader term node = record { term = term; node_id = node }

  same_node : (a b : LeaderId K) (o : Ordering) → nat_cmp a.term b.term ≡ o → is_eq (ordering_then o (cmp a.node_id b.node_id)) ≡ true → a ≡ b
  same_node a b Less e h = cc
  same_node a b Equal e h =
      ap (λ t. leader t a.node_id) (same_by_order a.term b.term e) ∙ ap (leader b.term) (told_apart a.node_id b.node_id h)
  same_node a b Greater e h = cc

  -- leaders that compare equal are one leader
  same_leader : (a b : LeaderId K) → is_eq (leader_cmp cmp a b) ≡ true → a ≡ b
  same_leader a b h = same_node a b (nat_cmp a.term b.term) refl h

  replaced : (key next : LogId K) (keys : List (LogId K)) (id : LogId K) → PlacesRise (key ∷ next ∷ keys)
      → ends_in_pair cmp (key ∷ next ∷ keys) ≡ true → (final next keys).index < id.index
      → ids_of (set (key ∷ next ∷ keys) (suc (length keys)) id)
      ≡ ids_of (key ∷ next ∷ keys) ++ (leader_ids (final next keys).leader_id ((final next keys).index + 1) id.index ++ id ∷ [])
  replaced key next [] id h pair l =
      let one_leader : next.leader_id ≡ key.leader_id = sym (same_leader key.leader_id next.leader_id pair) in
      rw (
        one_leader,
        leader_ids-one id.leader_id id.index (id.index + 1) refl,
        ← leader_ids-join key.leader_id key.index next.index id.index (omega arith) (omega arith),
        ← leader_ids-join key.leader_id next.index (next.index + 1) id.index (omega arith) (omega arith),
      )
      (simp (append_assoc, append-nil))
  replaced key next (later ∷ keys) id h pair l =
      ap (λ ids. leader_ids key.leader_id key.index next.index ++ ids) (replaced next later keys id h.1 pair l)
      ∙ sym (append_assoc (leader_ids key.leader_id key.index next.index) (ids_of (next ∷ later ∷ keys)) _)

  -- where the last two keys have one leader, the new last one takes the place of the old
  pub ids_of-replace : (keys : List (LogId K)) (id : LogId K) → PlacesRise keys → ends_in_pair cmp keys ≡ true → GoesOn (last_id keys) id
      → ids_of (set keys (length keys - 1) id) ≡ appended (ids_of keys) id
  ids_of-replace [] id h pair l = cc
  ids_of-replace (key ∷ []) id h pair l = cc
  ids_of-replace (key ∷ next ∷ keys) id h pair l =
      let at : length (key ∷ next ∷ keys) - 1 ≡ suc (length keys) = omega arith in
      let last : last_id (key ∷ next ∷ keys) ≡ Some (final next keys) = last_id-cons key (next ∷ keys) in
      rw at (replaced key next keys id h pair (subst (λ found. GoesOn found id) last l)
      ∙ sym (appended-after (key ∷ next ∷ keys) (final next keys) id h last))

module _ {K : Type 0} where
  places-push : (key : LogId K) (keys : List (LogId K)) (id : LogId K) → PlacesRise (key ∷ keys) → (final key keys).index < id.index → PlacesRise (key ∷ (keys ++ id ∷ []))
  places-push key [] id h l = (l, (tt, tt))
  places-push key (next ∷ keys) id h l = (h.0, places-push next keys id h.1 l)

  places-replace : (key next : LogId K) (keys : List (LogId K)) (id : LogId K) → PlacesRise (key ∷ next ∷ keys) → (final next keys).index < id.index
      → PlacesRise (set (key ∷ next ∷ keys) (suc (length keys)) id)
  places-replace key next [] id h l = (omega arith, (tt, tt))
  places-replace key next (later ∷ keys) id h l = (h.0, places-replace next later keys id h.1 l)

module _ {K : Type 0} (cmp : K → K → Ordering) where
  leaders-push : (key : LogId K) (keys : List (LogId K)) (id : LogId K) → LeadersChange cmp (key ∷ keys) → ends_in_pair cmp (key ∷ keys) ≡ false → LeadersChange cmp (key ∷ (keys ++ id ∷ []))
  leaders-push key [] id h pair = (tt, (tt, tt))
  leaders-push key (next ∷ []) id h pair = (pair, leaders-push next [] id h.1 refl)
  leaders-push key (next ∷ later ∷ keys) id h pair = (h.0, leaders-push next (later ∷ keys) id h.1 pair)

  leaders-replace : (key next : LogId K) (keys : List (LogId K)) (id : LogId K) → LeadersChange cmp (key ∷ next ∷ keys) → LeadersChange cmp (set (key ∷ next ∷ keys) (suc (length keys)) id)
  leaders-replace key next [] id h = (tt, (tt, tt))
  leaders-replace key next (later ∷ []) id h = (h.0, leaders-replace next later [] id h.1)
  leaders-replace key next (later ∷ last ∷ keys) id h = (h.0, leaders-replace next later (last ∷ keys) id h.1)

  -- a key more, or another last one, leaves keys
  pub AreKeys-push : (keys : List (LogId K)) (id : LogId K) → AreKeys cmp keys → ends_in_pair cmp keys ≡ false → GoesOn (last_id keys) id → AreKeys cmp (keys ++ id ∷ [])
  AreKeys-push [] id h pair l = ((tt, tt), (tt, tt))
  AreKeys-push (key ∷ keys) id h pair l =
      let on : GoesOn (Some (final key keys)) id = subst (λ found. GoesOn found id) (last_id-cons key keys) l in
      (places-push key keys id h.0 on, leaders-push key keys id h.1 pair)

  pub AreKeys-replace : (keys : List (LogId K)) (id : LogId K) → AreKeys cmp keys → GoesOn (last_id keys) id → AreKeys cmp (set keys (length keys - 1) id)
  AreKeys-replace [] id h l = (tt, tt)
  AreKeys-replace (key ∷ []) id h l = ((tt, tt), (tt, tt))
  AreKeys-replace (key ∷ next ∷ keys) id h l =
      let at : length (key ∷ next ∷ keys) - 1 ≡ suc (length keys) = omega arith in
      let on : GoesOn (Some (final next keys)) id = subst (λ found. GoesOn found id) (last_id-cons key (next ∷ keys)) l in
      rw at (places-replace key next keys id h.0 on, leaders-replace key next keys id h.1)

  -- what the last two say of the whole
  pub ends_in_pair-short : (keys : List (LogId K)) → length keys < 2 → ends_in_pair cmp keys ≡ false
  ends_in_pair-short [] h = refl
  ends_in_pair-short (key ∷ []) h = refl
  ends_in_pair-short (key ∷ next ∷ keys) h = absurd (omega arith)

  pair_at : (key next : LogId K) (keys : List (LogId K)) (before last : LogId K) → before ≡ get_or (key ∷ next ∷ keys) (length keys) before → last ≡ get_or (next ∷ keys) (length keys) last
      → is_eq (leader_cmp cmp before.leader_id last.leader_id) ≡ ends_in_pair cmp (key ∷ next ∷ keys)
  pair_at key next [] before last e f = rw (e, f) refl
  pair_at key next (later ∷ keys) before last e f = pair_at next later keys before last e f

  pub ends_in_pair-at : (keys : List (LogId K)) (before last : LogId K) → 2 ≤ length keys → before ≡ get_or keys (length keys - 2) before → last ≡ get_or keys (length keys - 1) last
      → is_eq (leader_cmp cmp before.leader_id last.leader_id) ≡ ends_in_pair cmp keys
  ends_in_pair-at [] before last h e f = absurd (omega arith)
  ends_in_pair-at (key ∷ []) before last h e f = absurd (omega arith)
  ends_in_pair-at (key ∷ next ∷ keys) before last h e f =
      let two : length (key ∷ next ∷ keys) - 2 ≡ length keys = omega arith in
      let one : length (key ∷ next ∷ keys) - 1 ≡ suc (length keys) = omega arith in
      pair_at key next keys before last (e ∙ ap (λ n. get_or (key ∷ next ∷ keys) n before) two) (f ∙ ap (λ n. get_or (key ∷ next ∷ keys) n last) one)
