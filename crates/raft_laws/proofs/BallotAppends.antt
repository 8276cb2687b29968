-- What an append makes of a log, and the front of it that agrees.
use Rattle.std.proofs.Common.{◌≡◌, ℕ, zero, suc, ◌+◌, ◌-◌, ◌<◌, ◌≤◌, List, [], ◌∷◌, ◌++◌, length, take, drop, Bool, true, false, eqb, cond, refl, sym, ap, ◌∙◌, subst, arith, ⊎_elim, eq-eqb, leb-true, take-add, take-append-drop, append_assoc}
use Rattle.std.specs.Prelude.{◌||◌, ◌==◌, nat_le, if◌then◌else◌}
use Rattle.std.proofs.lemmas.Bool.{cond_both, cond-true, or_cases, cases_lt}
use Rattle.raft_laws.specs.BallotLists.{AgreeBelow}
use Rattle.raft_laws.specs.BallotLogs.{BallotEntry, holds_before, put_over, put_from, cut_over, cut_from}
use Rattle.raft_laws.specs.BallotWorld.{BallotGroup, BallotAppend, BallotWorld}
use Rattle.raft_laws.proofs.BallotAgreement.{agree_sym, agree_trans, agree_less, agree_drop, agree_head, agree_tail}
use Rattle.raft_laws.proofs.BallotMerging.{holds_front}
use Rattle.raft_laws.proofs.BallotSafe.{Among, Safe}
use Rattle.raft_laws.proofs.BallotFacts.{fixed_open}
use Rattle.raft_laws.proofs.BallotTake.{holds_start, leader_holds}

-- how many entries at the front are of the same ballots
abbrev pub agreeing : List BallotEntry → List BallotEntry → ℕ
agreeing [] ys = 0
agreeing (x ∷ xs) [] = 0
agreeing (x ∷ xs) (y ∷ ys) = if x.ballot == y.ballot then suc (agreeing xs ys) else 0

-- the front that agrees
pub put_over_is : (xs es : List BallotEntry) → agreeing xs es < length es → put_over xs es ≡ take (agreeing xs es) xs ++ drop (agreeing xs es) es
put_over_is xs [] l = absurd (omega arith)
put_over_is [] (e ∷ es) l = refl
put_over_is (x ∷ xs) (e ∷ es) l = go (eqb x.ballot e.ballot) (put_over_is xs es) l
  where
    go : (t : Bool) → (agreeing xs es < length es → put_over xs es ≡ take (agreeing xs es) xs ++ drop (agreeing xs es) es) → cond t (suc (agreeing xs es)) 0 < suc (length es) → cond t (x ∷ put_over xs es) (e ∷ es) ≡ take (cond t (suc (agreeing xs es)) 0) (x ∷ xs) ++ drop (cond t (suc (agreeing xs es)) 0) (e ∷ es)
    go true rest l = ap (λ k. x ∷ k) (rest (omega arith))
    go false rest l = refl

pub put_over_all : (xs es : List BallotEntry) → agreeing xs es ≡ length es → put_over xs es ≡ xs
put_over_all xs [] l = refl
put_over_all [] (e ∷ es) l = absurd (omega arith)
put_over_all (x ∷ xs) (e ∷ es) l = go (eqb x.ballot e.ballot) (put_over_all xs es) l
  where
    go : (t : Bool) → (agreeing xs es ≡ length es → put_over xs es ≡ xs) → cond t (suc (agreeing xs es)) 0 ≡ suc (length es) → cond t (x ∷ put_over xs es) (e ∷ es) ≡ x ∷ xs
    go true rest l = ap (λ k. x ∷ k) (rest (omega arith))
    go false rest l = absurd (omega arith)

pub cut_over_is : (xs es : List BallotEntry) → agreeing xs es < length es → cut_over xs es ≡ take (agreeing xs es) xs
cut_over_is xs [] l = absurd (omega arith)
cut_over_is [] (e ∷ es) l = refl
cut_over_is (x ∷ xs) (e ∷ es) l = go (eqb x.ballot e.ballot) (cut_over_is xs es) l
  where
    go : (t : Bool) → (agreeing xs es < length es → cut_over xs es ≡ take (agreeing xs es) xs) → cond t (suc (agreeing xs es)) 0 < suc (length es) → cond t (x ∷ cut_over xs es) [] ≡ take (cond t (suc (agreeing xs es)) 0) (x ∷ xs)
    go true rest l = ap (λ k. x ∷ k) (rest (omega arith))
    go false rest l = refl

pub put_from_is : (start : ℕ) (xs es : List BallotEntry) → start ≤ length xs → put_from xs start es ≡ take start xs ++ put_over (drop start xs) es
put_from_is zero xs es l = refl
put_from_is (suc start) [] es l = absurd (omega arith)
put_from_is (suc start) (x ∷ xs) es l = ap (λ k. x ∷ k) (put_from_is start xs es (omega arith))

pub cut_from_is : (start : ℕ) (xs es : List BallotEntry) → start ≤ length xs → cut_from xs start es ≡ take start xs ++ cut_over (drop start xs) es
cut_from_is zero xs es l = refl
cut_from_is (suc start) [] es l = absurd (omega arith)
cut_from_is (suc start) (x ∷ xs) es l = ap (λ k. x ∷ k) (cut_from_is start xs es (omega arith))

pub agreeing_le : (xs es : List BallotEntry) → agreeing xs es ≤ length es
agreeing_le [] es = omega arith
agreeing_le (x ∷ xs) [] = omega arith
agreeing_le (x ∷ xs) (e ∷ es) = let l = agreeing_le xs es in cond_both (eqb x.ballot e.ballot) (suc (agreeing xs es)) 0 (λ n. n ≤ suc (length es)) (λ t. omega arith) (λ t. omega arith)

-- what agrees may be skipped
pub agreeing_skip : (k : ℕ) (xs es : List BallotEntry) → AgreeBelow k xs es → agreeing xs es ≡ k + agreeing (drop k xs) (drop k es)
agreeing_skip zero xs es a = let e : agreeing xs es ≡ 0 + agreeing xs es = omega arith in e
agreeing_skip (suc k) [] es a = absurd (omega (arith, a.left))
agreeing_skip (suc k) (x ∷ xs) [] a = absurd (omega (arith, a.right))
agreeing_skip (suc k) (x ∷ xs) (e ∷ es) a =
    let same = eq-eqb x.ballot e.ballot (ap (λ z. z.ballot) (agree_head a)) in
    let rest = agreeing_skip k xs es (agree_tail a) in
    cond-true (eqb x.ballot e.ballot) (suc (agreeing xs es)) 0 same ∙ (let q : suc (agreeing xs es) ≡ suc k + agreeing (drop k xs) (drop k es) = omega arith in q)

pub agreeing_none : (xs : List BallotEntry) → agreeing xs [] ≡ 0
agreeing_none [] = refl
agreeing_none (x ∷ xs) = refl

pub drop_past : {A : Type 0} (k : ℕ) (xs : List A) → length xs ≤ k → drop k xs ≡ []
drop_past zero [] l = refl
drop_past zero (x ∷ xs) l = absurd (omega arith)
drop_past (suc k) [] l = refl
drop_past (suc k) (x ∷ xs) l = drop_past k xs (omega arith)

module _ (g : BallotGroup) (w : BallotWorld) (n : ℕ) (a : BallotAppend) (was : Among a w.appends) (o : g.owner a.ballot ≡ n → ⊥) (le : (w.node n).ballot ≤ a.ballot) (ok : Safe g w) where
  -- what is known to be committed is the leader's
  pub commit_front : AgreeBelow (w.node n).commit (w.node n).log (w.lead a.ballot)
  commit_front =
      ⊎_elim
      (λ none. subst (λ k. AgreeBelow k (w.node n).log (w.lead a.ballot)) (sym none) (record { left = omega arith; right = omega arith; same = λ j l. absurd (omega arith) }))
      (λ c. agree_trans c.agrees (agree_sym (agree_less (w.node n).commit c.upto (leader_holds g w n a was o le ok c.ballot c.place (omega (arith, c.below)) (fixed_open c.fixed) c.fixed.within))))
      (ok.node n).sure

  module _ (held : (nat_le a.start (w.node n).commit || holds_before (w.node n).log a.start a.previous) ≡ true) where
    pub holds : holds_before (w.node n).log a.start a.previous ≡ true
    holds =
        ⊎_elim
        (λ t.
        let front = holds_front a.start (w.node n).log (w.lead a.ballot) (agree_less a.start (leb-true a.start (w.node n).commit t) commit_front) in
        subst (λ p. holds_before (w.node n).log a.start p ≡ true) (sym (ok.appends a was).previous) front)
        (λ t. t)
        (or_cases (nat_le a.start (w.node n).commit) (holds_before (w.node n).log a.start a.previous) held)

    pub start_front : AgreeBelow a.start (w.node n).log (w.lead a.ballot)
    start_front = holds_start g w n a was o le ok holds

    -- what is skipped agrees
    pub skipped : (k : ℕ) → k ≤ (w.node n).commit - a.start → k ≤ length a.entries → AgreeBelow k (drop a.start (w.node n).log) a.entries
    skipped k l m =
        let both : AgreeBelow (a.start + k) (w.node n).log (w.lead a.ballot) =
        ⊎_elim
        (λ b. let none : a.start + k ≡ a.start = omega arith in subst (λ j. AgreeBelow j (w.node n).log (w.lead a.ballot)) (sym none) start_front)
        (λ b. agree_less (a.start + k) (omega arith) commit_front)
        (cases_lt (w.node n).commit a.start)
        in
        agree_trans (agree_drop a.start k (w.node n).log (w.lead a.ballot) both) (agree_sym (agree_less k m (ok.appends a was).entries))

    -- all entries are held
    pub all_held : agreeing (drop a.start (w.node n).log) a.entries ≡ length a.entries → put_from (w.node n).log a.start a.entries ≡ (w.node n).log
    all_held e =
        put_from_is a.start (w.node n).log a.entries start_front.left
        ∙ ap (λ l. take a.start (w.node n).log ++ l) (put_over_all (drop a.start (w.node n).log) a.entries e)
        ∙ take-append-drop a.start (w.node n).log

    pub place : (t : ℕ) → agreeing (drop a.start (w.node n).log) a.entries ≡ t → t < length a.entries → (cut_from (w.node n).log a.start a.entries ≡ take (a.start + t) (w.node n).log) × (put_from (w.node n).log a.start a.entries ≡ take (a.start + t) (w.node n).log ++ drop t a.entries)
    place t e l =
        let F = (w.node n).log in
        let lt : agreeing (drop a.start F) a.entries < length a.entries = omega arith in
        let more = take-add a.start t F in (
          cut_from_is a.start F a.entries start_front.left
              ∙ ap (λ l. take a.start F ++ l) (cut_over_is (drop a.start F) a.entries lt ∙ ap (λ k. take k (drop a.start F)) e)
              ∙ sym more,
          put_from_is a.start F a.entries start_front.left
              ∙ ap (λ l. take a.start F ++ l) (put_over_is (drop a.start F) a.entries lt ∙ ap (λ k. take k (drop a.start F) ++ drop k a.entries) e)
              ∙ sym (append_assoc (take a.start F) (take t (drop a.start F)) (drop t a.entries))
              ∙ ap (λ l. l ++ drop t a.entries) (sym more),
        )
