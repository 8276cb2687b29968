-- The full list of log ids that keys stand for: its ends, and what goes to either end.
use Rattle.std.proofs.Common.{◌≡◌, ◌+◌, ◌-◌, ◌<◌, List, [], ◌∷◌, ◌++◌, length, refl, ap, sym, subst, ◌∙◌, arith, append_assoc}
use Rattle.std.specs.Prelude.{Some}
use Rattle.std.specs.List.{slice_get}
use Rattle.raft_values.specs.declared.log_id.LogId.{LogId}
use Rattle.raft_log_ids.specs.LogIdList.{leader_ids, end_of_key, ids_of, last_id, ids_between, appended, PlacesRise, GoesOn}
use Rattle.raft_log_ids.proofs.KeyEndLemmas.{end_above}
use Rattle.raft_log_ids.proofs.LogIdLemmas.{leader_ids-none, leader_ids-one, leader_ids-first}

-- the last one of x and those behind it
abbrev pub final : {X : Type 0} → X → List X → X
final x [] = x
final x (y ∷ ys) = final y ys

final-append : {X : Type 0} (x y : X) (xs ys : List X) → final x (xs ++ y ∷ ys) ≡ final y ys
final-append x y [] ys = refl
final-append x y (z ∷ xs) ys = final-append z y xs ys

slice_get-final : {X : Type 0} (x : X) (xs : List X) → slice_get (x ∷ xs) (length xs) ≡ Some (final x xs)
slice_get-final x [] = refl
slice_get-final x (y ∷ ys) = slice_get-final y ys

module _ {K : Type 0} where
  pub last_id-cons : (x : LogId K) (xs : List (LogId K)) → last_id (x ∷ xs) ≡ Some (final x xs)
  last_id-cons x xs = let at : length (x ∷ xs) - 1 ≡ length xs = omega arith in rw at (slice_get-final x xs)

  -- what stands behind the first log id
  abbrev pub ids_behind : LogId K → List (LogId K) → List (LogId K)
  ids_behind key keys = leader_ids key.leader_id (key.index + 1) (end_of_key key keys) ++ ids_of keys

  -- the first key is the first log id
  pub ids_of-first : (key : LogId K) (keys : List (LogId K)) → PlacesRise (key ∷ keys) → ids_of (key ∷ keys) ≡ key ∷ ids_behind key keys
  ids_of-first key keys h =
      ap (λ ids. ids ++ ids_of keys) (leader_ids-first key.leader_id key.index (end_of_key key keys) (end_above key keys h.0))

  final-ids : (key : LogId K) (keys : List (LogId K)) → PlacesRise (key ∷ keys) → final key (ids_behind key keys) ≡ final key keys
  final-ids key [] h = rw (leader_ids-none key.leader_id (key.index + 1) (key.index + 1) (omega arith)) refl
  final-ids key (next ∷ keys) h =
      rw (ids_of-first next keys h.1)
      (final-append key next (leader_ids key.leader_id (key.index + 1) next.index) (ids_behind next keys) ∙ final-ids next keys h.1)

  -- the last key is the last log id
  pub last_id-ids_of : (keys : List (LogId K)) → PlacesRise keys → last_id (ids_of keys) ≡ last_id keys
  last_id-ids_of [] h = refl
  last_id-ids_of (key ∷ keys) h =
      rw (ids_of-first key keys h)
      (last_id-cons key (ids_behind key keys) ∙ ap Some (final-ids key keys h) ∙ sym (last_id-cons key keys))

  pub first_id-ids_of : (keys : List (LogId K)) → PlacesRise keys → slice_get (ids_of keys) 0 ≡ slice_get keys 0
  first_id-ids_of [] h = refl
  first_id-ids_of (key ∷ keys) h = rw (ids_of-first key keys h) refl

  -- a key at the end stands for itself, and the last one before it now for the places between
  pushed : (key : LogId K) (keys : List (LogId K)) (id : LogId K) → PlacesRise (key ∷ keys) → (final key keys).index < id.index
      → ids_of (key ∷ (keys ++ id ∷ []))
      ≡ ids_of (key ∷ keys) ++ (leader_ids (final key keys).leader_id ((final key keys).index + 1) id.index ++ id ∷ [])
  pushed key [] id h l =
      rw (leader_ids-one key.leader_id key.index (key.index + 1) refl, leader_ids-one id.leader_id id.index (id.index + 1) refl)
      (ap (λ ids. ids ++ id ∷ []) (leader_ids-first key.leader_id key.index id.index l))
  pushed key (next ∷ keys) id h l =
      ap (λ ids. leader_ids key.leader_id key.index next.index ++ ids) (pushed next keys id h.1 l)
      ∙ sym (append_assoc (leader_ids key.leader_id key.index next.index) (ids_of (next ∷ keys)) _)

  joined : (ids between : List (LogId K)) (id : LogId K) → ids ++ (between ++ id ∷ []) ≡ ids ++ between ++ id ∷ []
  joined ids between id = sym (append_assoc ids between (id ∷ []))

  pub appended-after : (keys : List (LogId K)) (last : LogId K) (id : LogId K) → PlacesRise keys → last_id keys ≡ Some last
      → appended (ids_of keys) id ≡ ids_of keys ++ (leader_ids last.leader_id (last.index + 1) id.index ++ id ∷ [])
  appended-after keys last id h e =
      ap (λ found. ids_of keys ++ ids_between found id.index ++ id ∷ []) (last_id-ids_of keys h ∙ e)
      ∙ sym (joined (ids_of keys) (leader_ids last.leader_id (last.index + 1) id.index) id)

  -- a key more at the end
  pub ids_of-push : (keys : List (LogId K)) (id : LogId K) → PlacesRise keys → GoesOn (last_id keys) id → ids_of (keys ++ id ∷ []) ≡ appended (ids_of keys) id
  ids_of-push [] id h l = rw (leader_ids-one id.leader_id id.index (id.index + 1) refl) refl
  ids_of-push (key ∷ keys) id h l =
      let last : last_id (key ∷ keys) ≡ Some (final key keys) = last_id-cons key keys in
      pushed key keys id h (subst (λ found. GoesOn found id) last l) ∙ sym (appended-after (key ∷ keys) (final key keys) id h last)
