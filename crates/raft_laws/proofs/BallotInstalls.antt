-- What a snapshot's list, put over a log, makes of it.
use Rattle.std.proofs.Common.{◌≡◌, ℕ, zero, suc, ◌<◌, List, [], ◌∷◌, ◌++◌, length, take, drop, true, false, refl, sym, ap, ◌∙◌, subst, arith, ⊎_elim, take-append-drop}
use Rattle.raft_laws.specs.BallotLists.{AgreeBelow}
use Rattle.raft_laws.specs.BallotLogs.{BallotEntry, ballot_of, ballot_before, last_ballot, holds_before, put_over}
use Rattle.raft_laws.proofs.BallotAgreement.{agree_sym, agree_trans, agree_head, agree_tail}
use Rattle.raft_laws.proofs.BallotMerging.{Matching, merged_over, held_before, holds_front}
use Rattle.raft_laws.proofs.BallotAppends.{put_over_all, agreeing_le, agreeing_skip}
use Rattle.raft_laws.proofs.Ids.{last_before}

pub agree_all : (xs ys : List BallotEntry) → AgreeBelow (length xs) xs ys → length xs ≡ length ys → xs ≡ ys
agree_all [] [] a e = refl
agree_all [] (y ∷ ys) a e = absurd (omega arith)
agree_all (x ∷ xs) [] a e = absurd (omega arith)
agree_all (x ∷ xs) (y ∷ ys) a e = let h = agree_head a in let t = agree_all xs ys (agree_tail a) (omega arith) in cc

pub take_is : (xs ys : List BallotEntry) → AgreeBelow (length ys) xs ys → take (length ys) xs ≡ ys
take_is xs [] a = refl
take_is [] (y ∷ ys) a = absurd (omega (arith, a.left))
take_is (x ∷ xs) (y ∷ ys) a = let h = agree_head a in let t = take_is xs ys (agree_tail a) in cc

pub short_holds : (xs : List BallotEntry) (k q : ℕ) → length xs < k → holds_before xs k q ≡ false
short_holds xs zero q l = absurd (omega arith)
short_holds [] (suc k) q l = refl
short_holds (x ∷ xs) (suc zero) q l = absurd (omega arith)
short_holds (x ∷ xs) (suc (suc k)) q l = short_holds xs (suc k) q (omega arith)

-- the log after a snapshot's list was put over it
module _ (log lead p : List BallotEntry) (m : Matching log lead) (a : AgreeBelow (length p) p lead) where
  pub put_same : holds_before log (length p) (last_ballot p) ≡ true → (put_over log p ≡ log) × (p ++ drop (length p) log ≡ log)
  put_same h =
      let h' = subst (λ q. holds_before log (length p) q ≡ true) (last_before p) h in
      let before : ballot_before p (length p) ≡ ballot_before lead (length p) = before_same (length p) p lead a in
      let all = held_before (length p) log lead (ballot_before p (length p)) m a.right before h' in
      let both = agree_trans all (agree_sym a) in
      let n = agreeing_skip (length p) log p both in
      let most = agreeing_le log p in
      (put_over_all log p (omega arith), ap (λ l. l ++ drop (length p) log) (sym (take_is log p both)) ∙ take-append-drop (length p) log)
    where
      before_same : (k : ℕ) (xs ys : List BallotEntry) → AgreeBelow k xs ys → ballot_before xs k ≡ ballot_before ys k
      before_same zero xs ys b = refl
      before_same (suc k) xs ys b = ap ballot_of (b.same k (omega arith))

  pub put_other : holds_before log (length p) (last_ballot p) ≡ false → put_over log p ≡ p
  put_other h =
      let h' = subst (λ q. holds_before log (length p) q ≡ false) (last_before p) h in
      let merged = merged_over log lead p m a in
      ⊎_elim
      (λ e. absurd (let t = holds_front (length p) log p (agree_trans (subst (λ xs. AgreeBelow (length p) xs lead) e merged.holds) (agree_sym a)) in let u : true ≡ false = sym t ∙ h' in cc))
      (λ c.
      let size : length (put_over log p) ≡ length p = c.0 in
      let both = agree_trans merged.holds (agree_sym a) in
      agree_all (put_over log p) p (subst (λ k. AgreeBelow k (put_over log p) p) (sym size) both) size)
      merged.kept
