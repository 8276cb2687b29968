-- The keys are told by the full list that they stand for.
use Rattle.std.proofs.Common.{◌≡◌, ℕ, zero, suc, ◌+◌, ◌-◌, true, false, List, [], ◌∷◌, ◌++◌, refl, ap, sym, ◌∙◌}
use Rattle.std.specs.Prelude.{Option, Some, None, not}
use Rattle.std.specs.declared.cmp.Ordering.{Ordering}
use Rattle.std.specs.Ordering.{is_eq}
use Rattle.std.specs.Cmp.{IsTotalOrder}
use Rattle.raft_values.specs.declared.vote.LeaderId.{LeaderId}
use Rattle.raft_values.specs.declared.log_id.LogId.{LogId}
use Rattle.raft_log_ids.specs.LogIdList.{leader_ids, ids_of, PlacesRise, AreKeys, begins_leader, keys_behind, keys_of}
use Rattle.raft_log_ids.proofs.LogIdLemmas.{run, id_of, leader_ids-one}
use Rattle.raft_log_ids.proofs.LogIdListLemmas.{ids_of-first, ids_behind}
use Rattle.raft_log_ids.proofs.KeyRestLemmas.{same_leader-equal}

module _ {K : Type 0} (cmp : K → K → Ordering) (order : IsTotalOrder cmp) where
  no_key : (leader : LeaderId K) (index : ℕ) → begins_leader cmp (Some leader) (id_of leader index) ≡ false
  no_key leader index = ap (λ o. not (is_eq o)) (same_leader-equal cmp order leader)

  -- a leader's further log ids before another one are no keys
  run_skipped : (leader : LeaderId K) (a n : ℕ) (id : LogId K) (ids : List (LogId K)) → keys_behind cmp (Some leader) (run leader a n ++ id ∷ ids) ≡ keys_behind cmp (Some leader) (id ∷ ids)
  run_skipped leader a zero id ids = refl
  run_skipped leader a (suc zero) id ids = rw (no_key leader a) refl
  run_skipped leader a (suc (suc n)) id ids = rw (no_key leader a) (run_skipped leader (a + 1) (suc n) id ids)

  key_kept : (before : Option (LeaderId K)) (key : LogId K) (a n : ℕ) (id : LogId K) (ids : List (LogId K)) → begins_leader cmp before key ≡ true
      → keys_behind cmp before (key ∷ (run key.leader_id a n ++ id ∷ ids)) ≡ key ∷ keys_behind cmp (Some key.leader_id) (id ∷ ids)
  key_kept before key a zero id ids b = rw b refl
  key_kept before key a (suc n) id ids b = rw b (ap (λ more. key ∷ more) (run_skipped key.leader_id a (suc n) id ids))

  one_key_on : (before : Option (LeaderId K)) (key next : LogId K) (keys : List (LogId K)) → PlacesRise (key ∷ next ∷ keys) → begins_leader cmp before key ≡ true
      → keys_behind cmp before (ids_of (key ∷ next ∷ keys)) ≡ key ∷ keys_behind cmp (Some key.leader_id) (ids_of (next ∷ keys))
  one_key_on before key next keys h b =
      ap (keys_behind cmp before) (ids_of-first key (next ∷ keys) h ∙ ap (λ ids. key ∷ (leader_ids key.leader_id (key.index + 1) next.index ++ ids)) (ids_of-first next keys h.1))
      ∙ key_kept before key (key.index + 1) (next.index - (key.index + 1)) next (ids_behind next keys) b
      ∙ ap (λ ids. key ∷ keys_behind cmp (Some key.leader_id) ids) (sym (ids_of-first next keys h.1))

  keys_behind-ids_of : (before : Option (LeaderId K)) (key : LogId K) (keys : List (LogId K)) → AreKeys cmp (key ∷ keys) → begins_leader cmp before key ≡ true → keys_behind cmp before (ids_of (key ∷ keys)) ≡ key ∷ keys
  keys_behind-ids_of before key [] h b = rw (leader_ids-one key.leader_id key.index (key.index + 1) refl) refl
  keys_behind-ids_of before key (next ∷ []) h b =
      one_key_on before key next [] h.0 b
      ∙ ap (λ ids. key ∷ keys_behind cmp (Some key.leader_id) (ids ++ [])) (leader_ids-one next.leader_id next.index (next.index + 1) refl)
  keys_behind-ids_of before key (next ∷ later ∷ keys) h b =
      one_key_on before key next (later ∷ keys) h.0 b
      ∙ ap (λ ids. key ∷ ids) (keys_behind-ids_of (Some key.leader_id) next (later ∷ keys) (h.0.1, h.1.1) (ap not h.1.0))

  -- the keys among the log ids that keys stand for are those keys
  pub keys_of-ids_of : (keys : List (LogId K)) → AreKeys cmp keys → keys_of cmp (ids_of keys) ≡ keys
  keys_of-ids_of [] h = refl
  keys_of-ids_of (key ∷ keys) h = keys_behind-ids_of None key keys h refl
