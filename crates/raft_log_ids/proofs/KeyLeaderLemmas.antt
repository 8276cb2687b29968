-- The keys of the last run of one leader: what stands before them isn't in that run.
use Rattle.std.proofs.Common.{◌≡◌, ℕ, zero, suc, ◌+◌, ◌-◌, ◌≤◌, true, false, List, [], ◌∷◌, ◌++◌, length, drop, refl, ap, sym, ◌∙◌, arith}
use Rattle.std.specs.List.{list_all}
use Rattle.std.specs.declared.cmp.Ordering.{Ordering}
use Rattle.std.specs.Ordering.{is_eq}
use Rattle.std.specs.Cmp.{IsTotalOrder}
use Rattle.raft_values.specs.declared.vote.LeaderId.{LeaderId}
use Rattle.raft_values.specs.declared.log_id.LogId.{LogId}
use Rattle.raft_log_ids.specs.LogIdList.{leader_ids, ids_of, PlacesRise, AreKeys, ends_in_pair, keys_of, has_leader, last_run}
use Rattle.raft_log_ids.proofs.LogIdLemmas.{run, id_of, leader_ids-one}
use Rattle.raft_log_ids.proofs.LogIdListLemmas.{ids_of-first, ids_behind}
use Rattle.raft_log_ids.proofs.KeyRestLemmas.{same_leader-equal, AreKeys-drop}
use Rattle.raft_log_ids.proofs.KeysOfLemmas.{keys_of-ids_of}

module _ {K : Type 0} (cmp : K → K → Ordering) (order : IsTotalOrder cmp) where
  own : (leader : LeaderId K) (index : ℕ) → has_leader cmp leader (id_of leader index) ≡ true
  own leader index = ap is_eq (same_leader-equal cmp order leader)

  -- a leader's log ids and one of another leader: not all are that leader's
  run_differs : (leader : LeaderId K) (a n : ℕ) (next : LogId K) (ids : List (LogId K)) → has_leader cmp leader next ≡ false
      → list_all (has_leader cmp leader) (run leader a n ++ next ∷ ids) ≡ false
  run_differs leader a zero next ids differs = rw differs refl
  run_differs leader a (suc n) next ids differs = rw (own leader a) (run_differs leader (a + 1) n next ids differs)

  -- so that the last run stands behind them
  run_dropped : (leader : LeaderId K) (a n : ℕ) (next : LogId K) (ids : List (LogId K)) → has_leader cmp leader next ≡ false
      → last_run cmp (run leader a n ++ next ∷ ids) ≡ last_run cmp (next ∷ ids)
  run_dropped leader a zero next ids differs = refl
  run_dropped leader a (suc n) next ids differs = rw (run_differs leader (a + 1) n next ids differs) (run_dropped leader (a + 1) n next ids differs)

  key_dropped : (key next : LogId K) (keys : List (LogId K)) → PlacesRise (next ∷ keys) → has_leader cmp key.leader_id next ≡ false
      → last_run cmp (ids_of (key ∷ next ∷ keys)) ≡ last_run cmp (ids_of (next ∷ keys))
  key_dropped key next keys h differs =
      ap (λ ids. last_run cmp (leader_ids key.leader_id key.index next.index ++ ids)) (ids_of-first next keys h)
      ∙ run_dropped key.leader_id key.index (next.index - key.index) next (ids_behind next keys) differs
      ∙ ap (last_run cmp) (sym (ids_of-first next keys h))

  run_kept : (leader : LeaderId K) (a n : ℕ) (next : LogId K) → has_leader cmp leader next ≡ true → list_all (has_leader cmp leader) (run leader a n ++ next ∷ []) ≡ true
  run_kept leader a zero next same = rw same refl
  run_kept leader a (suc n) next same = rw (own leader a) (run_kept leader (a + 1) n next same)

  whole_kept : (key : LogId K) (ids : List (LogId K)) → list_all (has_leader cmp key.leader_id) ids ≡ true → last_run cmp (key ∷ ids) ≡ key ∷ ids
  whole_kept key ids same = rw same refl

  ids_of-one : (key : LogId K) → ids_of (key ∷ []) ≡ key ∷ []
  ids_of-one key = ap (λ ids. ids ++ []) (leader_ids-one key.leader_id key.index (key.index + 1) refl)

  pair_left : (key next : LogId K) (keys : List (LogId K)) → AreKeys cmp (key ∷ next ∷ keys) → ends_in_pair cmp (key ∷ next ∷ keys) ≡ true
      → last_run cmp (ids_of (key ∷ next ∷ keys)) ≡ ids_of (drop (length keys) (key ∷ next ∷ keys))
  pair_left key next [] h pair =
      let whole : ids_of (key ∷ next ∷ []) ≡ key ∷ (leader_ids key.leader_id (key.index + 1) next.index ++ next ∷ []) =
      ids_of-first key (next ∷ []) h.0 ∙ ap (λ ids. key ∷ (leader_ids key.leader_id (key.index + 1) next.index ++ ids)) (ids_of-one next) in
      ap (last_run cmp) whole
      ∙ whole_kept key _ (run_kept key.leader_id (key.index + 1) (next.index - (key.index + 1)) next pair)
      ∙ sym whole
  pair_left key next (later ∷ keys) h pair = key_dropped key next (later ∷ keys) h.0.1 h.1.0 ∙ pair_left next later keys (h.0.1, h.1.1) pair

  single_left : (key : LogId K) (keys : List (LogId K)) → AreKeys cmp (key ∷ keys) → ends_in_pair cmp (key ∷ keys) ≡ false
      → last_run cmp (ids_of (key ∷ keys)) ≡ ids_of (drop (length keys) (key ∷ keys))
  single_left key [] h pair = ap (last_run cmp) (ids_of-one key) ∙ sym (ids_of-one key)
  single_left key (next ∷ []) h pair = key_dropped key next [] h.0.1 pair ∙ single_left next [] (h.0.1, h.1.1) refl
  single_left key (next ∷ later ∷ keys) h pair = key_dropped key next (later ∷ keys) h.0.1 h.1.0 ∙ single_left next (later ∷ keys) (h.0.1, h.1.1) pair

  -- a pair at the end is the keys of the last run
  pub last_run-pair : (keys : List (LogId K)) → AreKeys cmp keys → ends_in_pair cmp keys ≡ true → keys_of cmp (last_run cmp (ids_of keys)) ≡ drop (length keys - 2) keys
  last_run-pair [] h pair = cc
  last_run-pair (key ∷ []) h pair = cc
  last_run-pair (key ∷ next ∷ keys) h pair =
      let at : length (key ∷ next ∷ keys) - 2 ≡ length keys = omega arith in
      ap (keys_of cmp) (pair_left key next keys h pair)
      ∙ keys_of-ids_of cmp order (drop (length keys) (key ∷ next ∷ keys)) (AreKeys-drop cmp (length keys) (key ∷ next ∷ keys) h)
      ∙ ap (λ n. drop n (key ∷ next ∷ keys)) (sym at)

  -- else the last key is
  pub last_run-single : (keys : List (LogId K)) → AreKeys cmp keys → ends_in_pair cmp keys ≡ false → keys_of cmp (last_run cmp (ids_of keys)) ≡ drop (length keys - 1) keys
  last_run-single [] h pair = refl
  last_run-single (key ∷ keys) h pair =
      let at : length (key ∷ keys) - 1 ≡ length keys = omega arith in
      ap (keys_of cmp) (single_left key keys h pair)
      ∙ keys_of-ids_of cmp order (drop (length keys) (key ∷ keys)) (AreKeys-drop cmp (length keys) (key ∷ keys) h)
      ∙ ap (λ n. drop n (key ∷ keys)) (sym at)

  pub pair_long : (keys : List (LogId K)) → ends_in_pair cmp keys ≡ true → 2 ≤ length keys
  pair_long [] pair = cc
  pair_long (key ∷ []) pair = cc
  pair_long (key ∷ next ∷ keys) pair = omega arith
