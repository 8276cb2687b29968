-- What grew at its end is put back by its length and its last one.
use Rattle.std.proofs.Common.{◌≡◌, suc, ◌-◌, ◌≤◌, List, [], ◌∷◌, ◌++◌, length, take, set, refl, ap, sym, ◌∙◌, arith}
use Rattle.std.proofs.lemmas.List.{take-take, take-append-le, take-set-le, length-set, length-append}
use Rattle.raft_values.specs.declared.log_id.LogId.{LogId}
use Rattle.raft_log_ids.specs.LogIdList.{KeepsFront, last_id, with_end}
use Rattle.raft_log_ids.proofs.LogIdListLemmas.{final, last_id-cons}

module _ {K : Type 0} where
  pub front-same : (ids : List (LogId K)) → KeepsFront ids ids
  front-same ids = (omega arith, refl)

  -- one more
  pub front-push : (ids : List (LogId K)) (id : LogId K) → KeepsFront ids (ids ++ id ∷ [])
  front-push ids id =
      (omega (arith, length-append ids (id ∷ [])), take-append-le (length ids - 1) ids (id ∷ []) (omega arith))

  -- another last one
  pub front-replace : (ids : List (LogId K)) (id : LogId K) → KeepsFront ids (set ids (length ids - 1) id)
  front-replace ids id =
      (omega (arith, length-set ids (length ids - 1) id), take-set-le (length ids - 1) ids (length ids - 1) id (omega arith))

  pub front-trans : (a b c : List (LogId K)) → KeepsFront a b → KeepsFront b c → KeepsFront a c
  front-trans a b c h k = (
    omega arith,
    sym (take-take (length a - 1) (length b - 1) c (omega arith))
        ∙ ap (take (length a - 1)) k.1 ∙ take-take (length a - 1) (length b - 1) b (omega arith) ∙ h.1,
  )

  heads : (x y : LogId K) (xs ys : List (LogId K)) → x ∷ xs ≡ y ∷ ys → x ≡ y
  heads x y xs ys e = cc

  tails : (x y : LogId K) (xs ys : List (LogId K)) → x ∷ xs ≡ y ∷ ys → xs ≡ ys
  tails x y xs ys e = cc

  restored : (x : LogId K) (xs others : List (LogId K)) → length (x ∷ xs) ≤ length others
      → take (length xs) others ≡ take (length xs) (x ∷ xs)
      → set (take (suc (length xs)) others) (length xs) (final x xs) ≡ x ∷ xs
  restored x xs [] h e = absurd (omega arith)
  restored x [] (y ∷ ys) h e = refl
  restored x (z ∷ zs) (y ∷ ys) h e =
      ap (λ w. w ∷ set (take (suc (length zs)) ys) (length zs) (final z zs)) (heads y x _ _ e)
      ∙ ap (λ l. x ∷ l) (restored z zs ys (omega arith) (tails y x _ _ e))

  -- as long as before, and with the last one before, they are those before
  pub put-back : (ids others : List (LogId K)) → KeepsFront ids others → with_end others (length ids) (last_id ids) ≡ ids
  put-back [] others h = refl
  put-back (x ∷ xs) others h =
      let at : length (x ∷ xs) - 1 ≡ length xs = omega arith in
      ap (with_end others (length (x ∷ xs))) (last_id-cons x xs)
      ∙ ap (λ n. set (take (suc (length xs)) others) n (final x xs)) at
      ∙ restored x xs others h.0 (ap (λ n. take n others) (sym at) ∙ h.1 ∙ ap (λ n. take n (x ∷ xs)) at)
