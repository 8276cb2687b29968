-- They are keys where each leads on to those behind it.
use Rattle.std.proofs.Common.{◌≡◌, ℕ, ◌+◌, ◌-◌, ◌<◌, List, ◌∷◌, length, get_or, take, drop, sym, subst, arith, length-drop}
use Rattle.std.specs.declared.cmp.Ordering.{Ordering}
use Rattle.std.proofs.lemmas.List.{drop_more, take_all}
use Rattle.raft_values.specs.declared.log_id.LogId.{LogId}
use Rattle.raft_log_ids.specs.LogIdList.{IsBelowNext, ChangesLeader, AreKeys}

-- the rest of a list to its end
pub rest_whole : {X : Type 0} (xs : List X) (n : ℕ) → take (length xs - n) (drop n xs) ≡ drop n xs
rest_whole xs n = take_all (length xs - n) (drop n xs) (omega (arith, length-drop n xs))

module _ {K : Type 0} (cmp : K → K → Ordering) where
  -- the key leads on to those behind it
  abbrev pub LeadsOn : LogId K → List (LogId K) → Type 0
  LeadsOn key keys = IsBelowNext key keys × ChangesLeader cmp key keys

  keys_apart : (key : LogId K) (keys : List (LogId K)) → AreKeys cmp (key ∷ keys) → LeadsOn key keys × AreKeys cmp keys
  keys_apart key keys h = ((h.0.0, h.1.0), (h.0.1, h.1.1))

  keys_together : (key : LogId K) (keys : List (LogId K)) → LeadsOn key keys → AreKeys cmp keys → AreKeys cmp (key ∷ keys)
  keys_together key keys l h = ((l.0, h.0), (l.1, h.1))

  pub keys-first : (keys : List (LogId K)) (i : ℕ) (d : LogId K) → i < length keys → AreKeys cmp (drop i keys) → LeadsOn (get_or keys i d) (drop (i + 1) keys) × AreKeys cmp (drop (i + 1) keys)
  keys-first keys i d h k = keys_apart (get_or keys i d) (drop (i + 1) keys) (subst (AreKeys cmp) (drop_more keys i d h) k)

  pub keys-before : (keys : List (LogId K)) (i : ℕ) (d : LogId K) → i < length keys → LeadsOn (get_or keys i d) (drop (i + 1) keys) → AreKeys cmp (drop (i + 1) keys) → AreKeys cmp (drop i keys)
  keys-before keys i d h l k = subst (AreKeys cmp) (sym (drop_more keys i d h)) (keys_together (get_or keys i d) (drop (i + 1) keys) l k)
