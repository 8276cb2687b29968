-- More log ids behind a list have no fewer keys.
use Rattle.std.proofs.Common.{◌≡◌, ℕ, zero, suc, ◌<◌, ◌≤◌, true, false, List, [], ◌∷◌, ◌++◌, length, get_or, take, ap, sym, subst, ◌∙◌, arith, length-append}
use Rattle.std.specs.Prelude.{Option, Some, None, Result, Ok, Err, OnErr, if◌then◌else◌}
use Rattle.std.specs.declared.cmp.Ordering.{Ordering}
use Rattle.std.specs.Cmp.{IsTotalOrder}
use Rattle.raft_values.specs.declared.vote.LeaderId.{LeaderId}
use Rattle.raft_values.specs.declared.log_id.LogId.{LogId}
use Rattle.raft_log_ids.specs.LogIdList.{ids_of, last_id, ids_between, appended, extended, ends_in_pair, AreKeys, GoesOn, begins_leader, keys_behind, keys_of, HasFewerKeys}
use Rattle.raft_log_ids.proofs.KeyOrderLemmas.{AreKeys-push}
use Rattle.raft_log_ids.proofs.LogIdListLemmas.{ids_of-push}
use Rattle.raft_log_ids.proofs.KeysOfLemmas.{keys_of-ids_of}

-- what holds, holds of a result that is an error
pub on_err : {T E P : Type 0} (r : Result T E) → P → OnErr r P
on_err (Ok x) p = tt
on_err (Err e) p = p

module _ {K : Type 0} (cmp : K → K → Ordering) where
  some_key : (before : Option (LeaderId K)) (id : LogId K) (ids : List (LogId K)) → 0 < length (keys_behind cmp before (id ∷ ids))
  some_key before id [] = omega arith
  some_key before id (next ∷ ids) =
      elim (begins_leader cmp before id) as (λ b. 0 < length (if b then id ∷ keys_behind cmp (Some id.leader_id) (next ∷ ids) else keys_behind cmp (Some id.leader_id) (next ∷ ids))) [
        | true ↦ omega arith
        | false ↦ some_key (Some id.leader_id) next ids
      ]

  no_fewer_keys : (before : Option (LeaderId K)) (ids more : List (LogId K)) → length (keys_behind cmp before ids) ≤ length (keys_behind cmp before (ids ++ more))
  no_fewer_keys before [] more = omega arith
  no_fewer_keys before (id ∷ []) more = let some = some_key before id more in omega (arith, some)
  no_fewer_keys before (id ∷ next ∷ ids) more =
      let rest = no_fewer_keys (Some id.leader_id) (next ∷ ids) more in
      elim (begins_leader cmp before id) as (λ b. length (if b then id ∷ keys_behind cmp (Some id.leader_id) (next ∷ ids) else keys_behind cmp (Some id.leader_id) (next ∷ ids))
      ≤ length (if b then id ∷ keys_behind cmp (Some id.leader_id) ((next ∷ ids) ++ more) else keys_behind cmp (Some id.leader_id) ((next ∷ ids) ++ more))) [
        | true ↦ omega (arith, rest)
        | false ↦ rest
      ]

  keys-appended : (ids : List (LogId K)) (id : LogId K) → length (keys_of cmp ids) ≤ length (keys_of cmp (appended ids id))
  keys-appended ids id =
      let between : List (LogId K) = ids ++ ids_between (last_id ids) id.index in
      omega (arith, no_fewer_keys None ids (ids_between (last_id ids) id.index), no_fewer_keys None between (id ∷ []))

  -- log ids that are put behind leave no fewer keys
  pub keys-extended : (ids more : List (LogId K)) → length (keys_of cmp ids) ≤ length (keys_of cmp (extended ids more))
  keys-extended ids [] = omega arith
  keys-extended ids (id ∷ more) = omega (arith, keys-appended ids id, keys-extended (appended ids id) more)

  -- where the log id at a place is one more key, all of them are more keys
  pub fewer_keys-at : (ids more : List (LogId K)) (i : ℕ) (d : LogId K) → i < length more
      → HasFewerKeys cmp (extended ids (take i more)) (appended (extended ids (take i more)) (get_or more i d)) → HasFewerKeys cmp ids (extended ids more)
  fewer_keys-at ids [] i d h e = absurd (omega arith)
  fewer_keys-at ids (x ∷ more) zero d h e = let rest = keys-extended (appended ids x) more in omega (arith, rest, e)
  fewer_keys-at ids (x ∷ more) (suc i) d h e =
      let rest = fewer_keys-at (appended ids x) more i d (omega arith) e in omega (arith, keys-appended ids x, rest)

  -- the same of two log ids, one after the other
  pub fewer_keys-behind : (ids others : List (LogId K)) (x y : LogId K) → others ≡ appended ids x → HasFewerKeys cmp others (appended others y)
      → HasFewerKeys cmp ids (appended (appended ids x) y)
  fewer_keys-behind ids others x y e h =
      let here = subst (λ (l : List (LogId K)). HasFewerKeys cmp l (appended l y)) e h in omega (arith, keys-appended ids x, here)

module _ {K : Type 0} (cmp : K → K → Ordering) (order : IsTotalOrder cmp) where
  -- where the last key begins a leader, one more log id is one more key
  pub fewer_keys-pushed : (keys : List (LogId K)) (id : LogId K) → AreKeys cmp keys → ends_in_pair cmp keys ≡ false → GoesOn (last_id keys) id
      → HasFewerKeys cmp (ids_of keys) (appended (ids_of keys) id)
  fewer_keys-pushed keys id h single on =
      let before : length (keys_of cmp (ids_of keys)) ≡ length keys = ap length (keys_of-ids_of cmp order keys h) in
      let after : length (keys_of cmp (appended (ids_of keys) id)) ≡ length (keys ++ id ∷ []) =
      ap (λ ids. length (keys_of cmp ids)) (sym (ids_of-push keys id h.0 on))
      ∙ ap length (keys_of-ids_of cmp order (keys ++ id ∷ []) (AreKeys-push cmp keys id h single on)) in
      omega (arith, before, after, length-append keys (id ∷ []))
